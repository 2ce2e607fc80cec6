use Rattle.std.proofs.Common.{rules, ◌≡◌, false, refl}
use Rattle.std.specs.Int.RustNames.{unsigned_abs}
use Rattle.cyclo24.specs.declared.fraction4.Fraction4.{Fraction4}
use Rattle.cyclo24.specs.ExactK24.{k24_laws}
use Rattle.cyclo24.specs.Written4.{numbers4, numerators4}
use Rattle.cyclo24.specs.Written4Inverse.{inverse, upright}
use Rattle.cyclo24.specs.Lowest4.{IsAnswered4}
use Rattle.cyclo24.specs.K24Laws.{exact_of, IsLow, made_low, made_value, low_positive, size_positive, inverse24}
use Rattle.cyclo24.proofs.k24.K24Field.inv.Goals as goal

-- an answer is the exact result
numbers : (a s : Fraction4) (h : IsLow a) → k24_laws.is_nought (exact_of a h) ≡ false → IsAnswered4 (inverse a).written (numerators4 (upright (inverse a).value)) (unsigned_abs (upright (inverse a).value).d.n) s → numbers4 s ≡ (k24_laws.inverse (exact_of a h)).0
numbers a s h z e =
    let u = upright (inverse a).value in
    inverse24 a (inverse a).value u s h z refl refl e.lowest

pub inverse-requires-clause-positive : goal.inverse-requires-clause-positive
inverse-requires-clause-positive c = low_positive c.args.self.fraction c.args.self.lowest

pub inverse-requires-clause-nonzero : goal.inverse-requires-clause-nonzero
inverse-requires-clause-nonzero c = size_positive c.args.self.fraction c.args.self.lowest c.requires

pub returns-in_err-fraction-clause-wide : goal.returns-in_err-fraction-clause-wide
returns-in_err-fraction-clause-wide c = let h = c.in_err-fraction.ensures.wide in search (rules, h)

pub invariant_of-result : goal.invariant_of-result
invariant_of-result c =
    let e = c.in_ok-fraction.ensures.ok in
    record { narrow = e.narrow; lowest = made_low c.in_ok-fraction.fraction (k24_laws.inverse (exact_of c.args.self.fraction c.args.self.lowest)) (numbers c.args.self.fraction c.in_ok-fraction.fraction c.args.self.lowest c.requires e) }

pub returns-clause-exact : goal.returns-clause-exact
returns-clause-exact c =
    let h = made_value c.in_ok-fraction.fraction (k24_laws.inverse (exact_of c.args.self.fraction c.args.self.lowest)) (numbers c.args.self.fraction c.in_ok-fraction.fraction c.args.self.lowest c.requires c.in_ok-fraction.ensures.ok) in
    search h

pub returns-clause-wide : goal.returns-clause-wide
returns-clause-wide c = let h = c.in_ok-fraction.ensures.ok.written in search (rules, h)
