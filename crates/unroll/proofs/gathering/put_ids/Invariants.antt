use Rattle.std.proofs.Common.{◌≡◌, ℕ, ◌+◌, ◌*◌, ◌<◌, [], ◌∷◌, get_or, slice_get, Some}
use Rattle.win_index.specs.Windows.{windows, IsWindow}
use Rattle.round_eval.specs.BlockStates.{block_len, window_numbered}
use Rattle.unroll.proofs.gathering.put_ids.Given as goal
use Rattle.win_index.specs.declared.limits.TheConstants.{BLOCK_WINDOWS}

abbrev pub invariant-loop-place : goal.invariant-loop-place
invariant-loop-place l =
    record {
      window : IsWindow 1 l.shape.ids l.window;
      here : l.place < block_len l.shape.ids 0 l.number
          → slice_get (windows 1 l.shape.ids) (BLOCK_WINDOWS * l.number + l.place) ≡ Some l.window;
      written : (i : ℕ) → i < l.place
          → window_numbered l.shape.ids 0 (BLOCK_WINDOWS * l.number + i) ≡ get_or l.ids i 0 ∷ [];
    }
