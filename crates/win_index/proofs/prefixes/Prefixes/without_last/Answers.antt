use Rattle.std.proofs.Common.{refl, arith}
use Rattle.std.proofs.lemmas.Grind.{common_steps}
use Rattle.std.proofs.lemmas.Bool.Decides.{nat_tests}
use Rattle.win_index.proofs.BucketPrefixNumbers.{gaps_are_few, shrunk_numbers}
use Rattle.win_index.proofs.prefixes.Prefixes.without_last.Goals as goal

pub returns : goal.returns
returns c = λ window has.
    let lists = c.args.self in
    shrunk_numbers lists.some has _ _ lists.short refl refl refl
    (grind (arith, common_steps, nat_tests)) (grind (arith, common_steps, nat_tests))

pub overflow_add-shorter-3 : goal.overflow_add-shorter-3
overflow_add-shorter-3 c = grind (arith, common_steps, (gaps_are_few c.args.self.some c.requires.has).0)

pub overflow_add-shorter-4 : goal.overflow_add-shorter-4
overflow_add-shorter-4 c = grind (arith, common_steps, (gaps_are_few c.args.self.some c.requires.has).1)
