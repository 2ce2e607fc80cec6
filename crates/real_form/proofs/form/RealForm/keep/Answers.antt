use Rattle.std.proofs.Common.{◌≡◌, ◌<◌, ℕ, subst, length, List}
use Rattle.std.specs.Prelude.{slice_index_or}
use Rattle.algebra.specs.NumberedGroup.{IsGenerated}
use Rattle.super_group.specs.Quotient.{order_of, quotient_group, generators_of}
use Rattle.real_form.specs.Held.{generator_of}
use Rattle.real_form.proofs.form.RealForm.keep.Goals as goal

pub invariant_of-result : goal.invariant_of-result
invariant_of-result c =
    let s = c.args.quotient in
    let e : c.generators-generators.result.items ≡ generators_of s = c.generators-generators.ensures.numbers in
    let words : IsGenerated (quotient_group s) (length (generators_of s)) (generator_of s) =
    subst (λ (gs : List ℕ). IsGenerated (quotient_group s) (length gs) (λ i. slice_index_or gs i 0)) e c.generators-generators.ensures.generate in
    let below : (i : ℕ) → i < length (generators_of s) → generator_of s i < order_of s =
    subst (λ (gs : List ℕ). (i : ℕ) → i < length gs → slice_index_or gs i 0 < order_of s) e c.generators-generators.ensures.below in
    record {
      group = c.order-order.ensures.group;
      below = below;
      generated = words;
      stacked = c.requires.stacked;
      narrow = c.requires.narrow;
      identity = c.requires.identity;
      multiplies = c.requires.multiplies;
    }
