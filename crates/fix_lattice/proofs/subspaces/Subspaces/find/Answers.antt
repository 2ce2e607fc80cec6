use Rattle.std.proofs.Common.{◌≡◌, ◌<◌, ◌≤◌, ℕ, inl, inr, true, false, refl, sym, ◌∙◌, ap, subst, length, arith, get_or, slice_get, Some, suc}
use Rattle.std.proofs.lemmas.Option.{get_or_from_slice_get}
use Rattle.lin_alg.specs.Compared.{lines_eq}
use Rattle.lin_alg.specs.Echelon.{EchelonView}
use Rattle.lin_alg.specs.UnionLaws.{lower}
use Rattle.fix_lattice.specs.Subspaces.{same_rows}
use Rattle.fix_lattice.proofs.subspaces.Subspaces.find.Goals as goal
use Rattle.fix_lattice.specs.FormLaws.{got-inside}

pub loop-i-preserved : goal.loop-i-preserved
loop-i-preserved g c j form l at same =
    let b : j < suc c.loop-i.i = omega (arith, l) in
    let forms : c.as_slice-forms.result.now ≡ c.args.self.now.forms = c.as_slice-forms.ensures.keys ∙ ap (λ z. z.forms) c.self.view_is in
    elim (lower j c.loop-i.i b) [
      | inl k ↦ c.loop-i.invariant j form k at same
      | inr e ↦
          let d : EchelonView g.row.F.Denot = c.index-forms-i.result in
          let at_i : slice_get c.args.self.now.forms c.loop-i.i ≡ Some form = subst (λ (n : ℕ). slice_get c.args.self.now.forms n ≡ Some form) e at in
          let is_form : form ≡ c.form.result.now =
          sym (get_or_from_slice_get c.args.self.now.forms c.loop-i.i form d at_i) ∙ (λ t. get_or (sym forms t) c.loop-i.i d) ∙ sym c.index-forms-i.is ∙ sym c.form.ensures.form in
          let yes : lines_eq g.F.PartialEq.eq c.args.equations.now.rows c.form.result.now.rows ≡ true = subst (λ (z : EchelonView _). same_rows g.F.PartialEq.eq c.args.equations.now z ≡ true) is_form same in
          let t : true ≡ false = sym yes ∙ sym c.if-eq.ensures in
          absurd cc
    ]

pub returns-clause-none : goal.returns-clause-none
returns-clause-none g c = (
  λ _ j form at same.
      let forms : c.as_slice-forms.result.now ≡ c.args.self.now.forms = c.as_slice-forms.ensures.keys ∙ ap (λ z. z.forms) c.self.view_is in
      let n : length c.as_slice-forms.result.now ≡ length c.args.self.now.forms = ap length forms in
      let inside : j < length c.args.self.now.forms = got-inside g.F.Field.field.laws g.F.Field.value c.args.self.now.forms j form at in
      let end : length c.as_slice-forms.result.now ≤ c.loop-i.i = c.loop-i-test.false in
      let l : j < c.loop-i.i = omega (arith, n, inside, end) in
      c.loop-i.invariant j form l at same,
  λ _. refl,
)
