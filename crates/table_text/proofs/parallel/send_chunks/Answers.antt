use Rattle.std.proofs.Common.{◌≡◌, ℕ, ◌+◌, ◌<◌, List, ◌∷◌, ◌++◌, length, take, drop, get_or, refl, sym, ap, ◌∙◌}
use Rattle.std.proofs.Common.{append_assoc, take-append-drop, arith, rules}
use Rattle.std.specs.Prelude.{flat_map}
use Rattle.std.proofs.lemmas.List.{drop_more}
use Rattle.std.proofs.lemmas.List.Concat.{flat_map-append}
use Rattle.devices.proofs.Writing.{on_err, tells_front}
use Rattle.table_text.proofs.parallel.send_chunks.Goals as goal

-- the bytes of the first chunks, of one more, and of the others
parts : (i : ℕ) (chunks : List (List ℕ)) (d : List ℕ) → i < length chunks
    → (flat_map (λ c. c) (take i chunks) ++ get_or chunks i d) ++ flat_map (λ c. c) (drop (i + 1) chunks)
    ≡ flat_map (λ c. c) chunks
parts i chunks d lt =
    append_assoc (flat_map (λ c. c) (take i chunks)) (get_or chunks i d) (flat_map (λ c. c) (drop (i + 1) chunks))
    ∙ sym (flat_map-append (λ (c : List ℕ). c) (take i chunks) (get_or chunks i d ∷ drop (i + 1) chunks))
    ∙ ap (λ l. flat_map (λ c. c) (take i chunks ++ l)) (sym (drop_more chunks i d lt))
    ∙ ap (flat_map (λ c. c)) (take-append-drop i chunks)

pub returns-in_err-send-clause-sent : goal.returns-in_err-send-clause-sent
returns-in_err-send-clause-sent g c =
    let inv = c.loop-index.invariant in
    let i = c.loop-index.index in
    let chunks = c.args.chunks.now in
    let lt : i < length chunks = search rules in
    let own = inv.left i c.index-chunks-index.result (omega arith) (omega (arith, lt, inv.size)) in
    let rest = flat_map (λ c. c) (drop (i + 1) chunks) in
    record {
      ok = search rules;
      front = on_err c.from_residual.result
          (tells_front _ _ _ _ _ _ rest (flat_map (λ c. c) (take i chunks), inv.sent, refl) c.in_err-send.ensures.sent.front
          (ap (λ chunk. (flat_map (λ c. c) (take i chunks) ++ chunk) ++ rest) own
          ∙ parts i chunks c.index-chunks-index.result lt));
      fault = search rules;
    }
