use Rattle.nbhd_check.proofs.near.near_free_windows.Goals as goal

pub invariant_of-search-2 : goal.invariant_of-search-2
invariant_of-search-2 g c =
    record { some = c.requires.some; cover = rw c.windows_per_bucket.ensures.value at c.group_masks-masks.ensures }
