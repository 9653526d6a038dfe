-- Consecutive entries.
use Rattle.std.proofs.Common.{◌≡◌, ℕ, ◌+◌, ◌-◌, ◌<◌, ◌≤◌, List, ◌++◌, length, refl, ⊎_elim, arith}
use Rattle.std.proofs.lemmas.Bool.{cases_lt}
use Rattle.std.proofs.lemmas.List.{get_or_append_left, get_or-append_right, length-append}
use Rattle.lang_check.specs.Plans.{ProgramForIds}
use Rattle.table_fill.specs.EntryShares.{AreEntries}

-- entries, and those of the windows after them
pub joined_entries :
    (plan : ProgramForIds) (first middle end : ℕ) (front back : List ℕ) → AreEntries plan first middle front
    → AreEntries plan middle end back → AreEntries plan first end (front ++ back)
joined_entries plan first middle end front back are more =
    let size : length (front ++ back) ≡ length front + length back = length-append front back in
    record {
      size = omega (arith, size, are.size, more.size);
      each = λ i lt.
          ⊎_elim (λ (inside : i < length front). rw (get_or_append_left front back 0 i inside) (are.each i inside))
          (λ (past : length front ≤ i).
          let place : middle + (i - length front) ≡ first + i = omega (arith, past, are.size) in
          rw (get_or-append_right front back (length front) i 0 refl past, ← place)
          (more.each (i - length front) (omega (arith, lt, size, past))))
          (cases_lt i (length front));
    }
