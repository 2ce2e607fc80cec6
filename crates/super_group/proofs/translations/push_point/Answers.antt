use Rattle.std.proofs.Common.{◌∙◌, ap, subst, sym, ◌+◌, List, ℤ, [], ◌∷◌, ◌++◌}
use Rattle.std.proofs.lemmas.Bool.{iff_false}
use Rattle.super_group.specs.TranslationsBefore.{AreTranslationsBefore, HasPoint}
use Rattle.super_group.proofs.TranslationLemmas.{lattice-point, point-lattice}
use Rattle.super_group.proofs.BeforeLemmas.{point-none, point-more}
use Rattle.super_group.proofs.translations.push_point.Goals as goal

pub returns-then-not-has_point : goal.returns-then-not-has_point
returns-then-not-has_point c =
    point-none c.args.lattice c.args.d c.args.x c.args.y c.args.z c.args.list.now.items
    (λ h. iff_false c.has_point.ensures c.if-not-has_point.true
    (subst (λ (cs : List (List ℤ)). HasPoint cs c.args.x c.args.y c.args.z) (sym (c.as_slice.ensures.value ∙ c.centrings.ensures)) (lattice-point c.args.lattice c.args.x c.args.y c.args.z h)))
    c.requires.before

pub returns-in-Ok : goal.returns-in-Ok
returns-in-Ok c =
    subst (AreTranslationsBefore c.args.lattice c.args.d c.args.x c.args.y (c.args.z + 1)) (sym (c.in-Ok.ensures.items ∙ ap (λ p. c.args.list.now.items ++ p ∷ []) c.point.ensures))
    (point-more c.args.lattice c.args.d c.args.x c.args.y c.args.z c.args.list.now.items c.requires.x c.requires.y c.requires.z
    (point-lattice c.args.lattice c.args.x c.args.y c.args.z
    (subst (λ (cs : List (List ℤ)). HasPoint cs c.args.x c.args.y c.args.z) (c.as_slice.ensures.value ∙ c.centrings.ensures) (c.has_point.ensures.0 c.if-not-has_point.false)))
    c.requires.before)
