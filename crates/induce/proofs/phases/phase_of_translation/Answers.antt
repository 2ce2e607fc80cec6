use Rattle.std.proofs.Common.{◌≡◌, ◌<◌, ◌/◌, ℤ, List, [], sym, ap, ◌∙◌, subst, length, get_or}
use Rattle.std.specs.Prelude.{slice_index_or}
use Rattle.space_ops.specs.declared.lattice.Lattice.{Lattice}
use Rattle.space_ops.specs.Op.{vector_of, identity_op}
use Rattle.space_ops.specs.Words.{IsLatticeVector}
use Rattle.space_ops.specs.Group.{Parent}
use Rattle.induce.specs.Arms.{no_arm}
use Rattle.induce.proofs.TurnLemmas.{translation_within, turn_below, turned_lattice, turned_phase}
use Rattle.induce.proofs.phases.phase_of_translation.Goals as goal

pub op-back-requires : goal.op-back-requires
op-back-requires c =
    subst (λ (p : Parent). (slice_index_or c.args.arms.now c.args.j no_arm).back / length c.translations.result.now < length p.ops) (sym c.group.ensures)
    (turn_below c.args.quotient.now c.args.star.now c.requires.star c.args.arms.now c.requires.arms c.args.j c.requires.arm (length c.translations.result.now) (ap length c.translations.ensures))

pub turned-requires-clause-translation : goal.turned-requires-clause-translation
turned-requires-clause-translation c =
    translation_within c.args.quotient.now c.args.star.now c.requires.star c.args.t c.requires.translation (get_or c.translations-2.result.now c.args.t [])
    (ap (λ (ts : List (List ℤ)). get_or ts c.args.t []) c.translations-2.ensures)

pub power-requires : goal.power-requires
power-requires c =
    let f : c.op-back.result ≡ slice_index_or c.args.quotient.now.parent.ops ((slice_index_or c.args.arms.now c.args.j no_arm).back / length c.translations.result.now) identity_op =
    c.op-back.ensures.value ∙ ap (λ (p : Parent). slice_index_or p.ops ((slice_index_or c.args.arms.now c.args.j no_arm).back / length c.translations.result.now) identity_op) c.group.ensures in
    subst (λ (lattice : Lattice). IsLatticeVector lattice (vector_of c.turned.result)) (sym c.requires.star.star.lattice)
    (turned_lattice c.args.quotient.now c.args.star.now c.requires.star c.args.arms.now c.requires.arms c.args.j c.requires.arm (length c.translations.result.now) (ap length c.translations.ensures)
    c.op-back.result f c.args.t c.requires.translation (get_or c.translations-2.result.now c.args.t []) (ap (λ (ts : List (List ℤ)). get_or ts c.args.t []) c.translations-2.ensures)
    c.turned.result c.turned.ensures)

pub returns : goal.returns
returns c =
    let f : c.op-back.result ≡ slice_index_or c.args.quotient.now.parent.ops ((slice_index_or c.args.arms.now c.args.j no_arm).back / length c.translations.result.now) identity_op =
    c.op-back.ensures.value ∙ ap (λ (p : Parent). slice_index_or p.ops ((slice_index_or c.args.arms.now c.args.j no_arm).back / length c.translations.result.now) identity_op) c.group.ensures in
    c.power.ensures.value
    ∙ turned_phase c.args.quotient.now c.args.star.now c.requires.star c.args.arms.now c.requires.arms c.args.j c.requires.arm (length c.translations.result.now) (ap length c.translations.ensures)
    c.op-back.result f c.args.t c.requires.translation (get_or c.translations-2.result.now c.args.t []) (ap (λ (ts : List (List ℤ)). get_or ts c.args.t []) c.translations-2.ensures)
    c.turned.result c.turned.ensures
