use Rattle.std.proofs.Common.{◌≡◌, ℕ, ◌+◌, ◌-◌, List, ◌++◌, length, take, drop, ap, ◌∙◌, arith}
use Rattle.std.proofs.Math.Seq.{take-append_seam}
use Rattle.std.proofs.lemmas.List.{take-take}
use Rattle.json_reports.specs.TableTexts.{entry_text}
use Rattle.json_reports.proofs.entries.store_entry.Goals as goal

-- the text that ends at an index, from the bytes behind its start
part_is : (first : ℕ) (cells text rest : List ℕ) → first + length text ≡ 6 → drop first cells ≡ text ++ rest
    → take (6 - first) (take (first + 8 - first) (drop first cells)) ≡ text
part_is first cells text rest ends is =
    take-take (6 - first) (first + 8 - first) (drop first cells) (omega (arith, ends))
    ∙ (λ i. take (exact i) (is i)) ∙ take-append_seam text rest
  where
    exact : 6 - first ≡ length text
    exact = omega (arith, ends)

pub returns-clause-text : goal.returns-clause-text
returns-clause-text c =
    let first = c.write_entry-first in
    c.write_buffered.ensures.text
    ∙ ap (λ l. take c.args.start c.args.bytes.now ++ l)
    (part_is first.result first.new.cells (entry_text c.args.entry) _ first.ensures.start first.ensures.text)
