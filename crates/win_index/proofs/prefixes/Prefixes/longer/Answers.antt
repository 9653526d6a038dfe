use Rattle.std.proofs.Common.{refl, arith}
use Rattle.std.proofs.lemmas.Grind.{common_steps}
use Rattle.std.proofs.lemmas.Bool.Decides.{nat_tests}
use Rattle.win_index.proofs.BucketPrefixNumbers.{grown_few, grown_numbers}
use Rattle.win_index.proofs.prefixes.Prefixes.longer.Goals as goal

pub overflow_add-result-2 : goal.overflow_add-result-2
overflow_add-result-2 c =
    let few = grown_few c.args.self.some c.requires.1 _ c.args.self.short c.args.self.few in
    grind (arith, common_steps, nat_tests, few.0)

pub overflow_mul-result : goal.overflow_mul-result
overflow_mul-result c =
    let few = grown_few c.args.self.some c.requires.1 _ c.args.self.short c.args.self.few in
    omega (arith, few.0)

pub overflow_add-result-4 : goal.overflow_add-result-4
overflow_add-result-4 c =
    let few = grown_few c.args.self.some c.requires.1 _ c.args.self.short c.args.self.few in
    omega (arith, few.1)

pub overflow_mul-result-2 : goal.overflow_mul-result-2
overflow_mul-result-2 c = omega (arith, overflow_add-result-4 c)

pub returns : goal.returns
returns c = λ window is.
    let lists = c.args.self in
    grown_numbers lists.some is _ lists.short (grind (arith, common_steps, nat_tests)) refl
    (grind (arith, common_steps, nat_tests)) (grind (arith, common_steps, nat_tests))
