-- The windows of a bucket share what `Bucket` holds, also when the source knows more.
use Rattle.std.proofs.Common.{◌≡◌, ℕ, ◌+◌, ◌*◌, ◌/◌, ◌<◌, List, get_or, take, drop, sym, ap, ◌∙◌, arith}
use Rattle.std.proofs.lemmas.List.{drop-take, take-take, get_or-take}
use Rattle.std.proofs.lemmas.Option.{same_Some}
use Rattle.win_index.specs.Buckets.{HasPlaces}
use Rattle.win_index.specs.declared.series.BucketPlaces.{BucketPlaces}
use Rattle.lang_check.specs.Plans.{ProgramForIds}
use Rattle.node_program.specs.Node.{to_right}
use Rattle.unroll.specs.Below.{part}
use Rattle.round_eval.specs.Entries.{Entries, Grows}
use Rattle.round_eval.specs.Line.{middle_state}
use Rattle.unroll.specs.Parts.{KnowsPart, IsFirstPart, IsBucket}
use Rattle.unroll.specs.declared.bucket.FirstPart.{FirstPart}
use Rattle.unroll.specs.declared.bucket.Bucket.{Bucket}
use Rattle.unroll.proofs.Known.{still_known, entry_grows, window_at}
use Rattle.win_index.specs.declared.limits.TheConstants.{BLOCK_WINDOWS}
use Rattle.win_index.proofs.Windows.{number_of_is}

-- the positions of a bucket follow from the prefix of its windows
pub same_places :
    (m low : ℕ) (w v : List ℕ) (places : BucketPlaces) → take (2 * low + 2) w ≡ take (2 * low + 2) v
    → HasPlaces (2 * low + 1) m w places
    → HasPlaces (2 * low + 1) m v places
same_places m low w v places same has =
    let front : take (2 * low + 1 + 1) w ≡ take (2 * low + 1 + 1) v = grind (arith, same) in
    let item : (i : ℕ) → i < 2 * low + 1 + 1 → get_or w i 0 ≡ get_or v i 0 =
    λ i lt. cc (front, get_or-take (2 * low + 1 + 1) w i 0 lt, get_or-take (2 * low + 1 + 1) v i 0 lt) in
    record {
      first = rw (item 0 (omega arith), front) at has.first;
      second = rw (item 1 (omega arith), front) at has.second;
      end = rw front at has.end;
    }

module _ (plan : ProgramForIds) (old now : Entries) (low : ℕ) (grows : Grows old now) where
  pub first_grows : (first : FirstPart) → IsFirstPart plan old low first → IsFirstPart plan now low first
  first_grows first is = record { sent_is = is.sent_is; known = still_known old now low (first.number / BLOCK_WINDOWS) grows is.known }

  pub same_bucket : (w v : List ℕ) (bucket : Bucket) → take (2 * low + 2) w ≡ take (2 * low + 2) v
      → IsBucket plan old low w bucket
      → IsBucket plan now low v bucket
  same_bucket w v bucket same is =
      let left : part w low 0 ≡ part v low 0 = grind (arith, take-take, ap (take (2 * low + 1)) same) in
      let middle : part w low 1 ≡ part v low 1 = grind (arith, drop-take, same) in
      let rest : take (2 * low) (drop 2 w) ≡ take (2 * low) (drop 2 v) = grind (arith, drop-take, same) in
      record {
        start_is = rw rest at is.start_is;
        places_are = same_places plan.ids low w v bucket.places same is.places_are;
        first_is = record { number_is = rw left at is.first_is.number_is; first_is = first_grows bucket.first is.first_is.first_is };
        middle_is = entry_grows plan old now low _ _ grows is.middle_is;
        own_is = rw middle at is.own_is;
        own_cells = is.own_cells;
        own_known = λ n number. still_known old now low (n / BLOCK_WINDOWS) grows (is.own_known n (rw middle number));
      }

-- the first parts of a bucket's windows
module _ (plan : ProgramForIds) (entries : Entries) (low : ℕ) (w : List ℕ) (bucket : Bucket)
    (is : IsBucket plan entries low w bucket) where
  pub left_is : bucket.first.sent ≡ to_right plan.program low (middle_state plan.program low (part w low 0))
  left_is = rw (window_at plan.ids low bucket.first.number (part w low 0) is.first_is.number_is) at is.first_is.first_is.sent_is

  pub left_known : KnowsPart entries plan.ids low w 0
  left_known = λ n number.
      rw (same_Some n bucket.first.number (sym number
      ∙ number_of_is (2 * low + 1) plan.ids bucket.first.number (part w low 0) is.first_is.number_is))
      is.first_is.first_is.known
