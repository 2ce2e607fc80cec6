-- The denominators of the wave vectors of a file.
use Rattle.std.proofs.Common.{◌≡◌, sym, ap, ◌∙◌, subst, ℕ, ◌%◌, ◌<◌, pos, List, [], ◌∷◌, length, map, get_or, arith, slice_index_or}
use Rattle.std.proofs.lemmas.List.{get_or-map, length-map}
use Rattle.std.specs.Prelude.{All}
use Rattle.iso_text.specs.Ranges.{IsBlock}
use Rattle.iso_text.specs.declared.numbers.Frac.{Frac}
use Rattle.iso_text.specs.declared.sections.IrrepText.{IrrepText}
use Rattle.kstar.specs.Fraction.{part_of}
use Rattle.induce.specs.CellPhase.{HasDenominators}
use Rattle.super_group.specs.Multipliers.{AreDenominators, denominator}
use Rattle.report_steps.specs.WaveLaws.{wave_of, fraction-at}

-- the denominators of the wave vectors of irreps
abbrev pub dens_of : List IrrepText → List (List ℕ)
dens_of irreps = map (λ (i : IrrepText). map (λ v. v.den) i.k) irreps

three_dens : (k : List Frac) → length k ≡ 3 → (j : ℕ) → j < 3 → slice_index_or (map (λ (v : Frac). v.den) k) j 1 ≡ (slice_index_or k j (record { num = pos 0; den = 1 })).den
three_dens k e j l =
    get_or-map (λ (v : Frac). v.den) k j (record { num = pos 0; den = 1 }) 1 (omega (arith, e, l))

pub has-denominators : (irreps : List IrrepText) (n : ℕ) (i : IrrepText) → n < length irreps → get_or irreps n i ≡ i → IsBlock i → HasDenominators (dens_of irreps) n (wave_of i)
has-denominators irreps n i l e b =
    let h : length (dens_of irreps) ≡ length irreps = length-map irreps (λ (i : IrrepText). map (λ v. v.den) i.k) in
    let at : slice_index_or (dens_of irreps) n [] ≡ map (λ (v : Frac). v.den) i.k = get_or-map (λ (i : IrrepText). map (λ v. v.den) i.k) irreps n i [] l ∙ ap (λ (i : IrrepText). map (λ (v : Frac). v.den) i.k) e in
    let part : (j : ℕ) → j < 3 → denominator (dens_of irreps) n j ≡ (part_of (wave_of i) j).den =
    λ j m. ap (λ (ds : List ℕ). slice_index_or ds j 1) at ∙ three_dens i.k b.wave.count j m in
    record { listed = omega (arith, h, l); first = part 0 (omega arith); second = part 1 (omega arith); third = part 2 (omega arith) }

den-at : (irreps : List IrrepText) (e : IrrepText) → All IsBlock irreps → (n j : ℕ) → n < length irreps → j < 3 → denominator (dens_of irreps) n j ≡ (part_of (wave_of (get_or irreps n e)) j).den
den-at irreps e b n j l m =
    ap (λ (ds : List ℕ). slice_index_or ds j 1) (get_or-map (λ (i : IrrepText). map (λ v. v.den) i.k) irreps n e [] l) ∙ three_dens (get_or irreps n e).k (b n e l).wave.count j m

pub are-denominators : (irreps : List IrrepText) → All IsBlock irreps → AreDenominators (dens_of irreps)
are-denominators [] b = record {
  positive = λ n j l m. let none : n < 0 = l in absurd (omega (arith, none));
  divide = λ n j l m. let none : n < 0 = l in absurd (omega (arith, none));
}
are-denominators (e ∷ rest) b =
    let irreps : List IrrepText = e ∷ rest in
    let size : length (dens_of irreps) ≡ length irreps = length-map irreps (λ (i : IrrepText). map (λ v. v.den) i.k) in
    record {
      positive = λ n j l m. let k : n < length irreps = omega (arith, size, l) in
          subst (λ x. 0 < x) (sym (den-at irreps e b n j k m)) (fraction-at (get_or irreps n e) (b n e k) j m).positive;
      divide = λ n j l m. let k : n < length irreps = omega (arith, size, l) in
          subst (λ x. 12 % x ≡ 0) (sym (den-at irreps e b n j k m)) (fraction-at (get_or irreps n e) (b n e k) j m).divides;
    }
