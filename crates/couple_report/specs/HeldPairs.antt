-- What the program holds of two irreps that are taken together.
--
-- chosen_pair_by format q i j, chosen_pair d i j: two irreps under a quotient, of a file
-- ArePlaces wanted other d k: the places of the two that are asked for
-- formed_pair p f: two real forms, as the definitions name them; IsPairHeld q f: they are of few dimensions, and of the quotient
-- formed_in t f: the same, by what is told of both; AreTogether t f: it is told of them
-- coupled_in t act: both as one, as the definitions name it; IsTogether t act: the quotient acts so
-- AreCoupledDirections c l: the listing of the directions of pairs
use Rattle.std.specs.Prelude.{◌≡◌, ℕ, ◌+◌, ◌≤◌, List, map, Option, Some}
use Rattle.cyclo24.specs.declared.k24.K24.{K24}
use Rattle.cyclo24.specs.K24.{exact24}
use Rattle.cyclo24.specs.ExactK24.{k24, k24_laws}
use Rattle.iso_text.specs.declared.sections.IrrepText.{IrrepText}
use Rattle.lin_alg.specs.Action.{Action}
use Rattle.fix_lattice.specs.Subspaces.{AreWholeForms}
use Rattle.class_list.specs.Directions.{IsListing}
use Rattle.class_list.specs.Seen.{DirectionView, directions_of}
use Rattle.super_group.specs.Quotient.{SupercellGroup, order_of}
use Rattle.real_form.specs.RealForm.{quotient_of, action_of}
use Rattle.report_steps.specs.Contexts.{Divided}
use Rattle.list_report.specs.Choice.{chosen_by}
use Rattle.list_report.specs.Closing.{order_by}
use Rattle.list_report.specs.HeldListings.{IsPlaceOf, formed_by}
use Rattle.couple_report.specs.Pairs.{ChosenPair, FormedPair}
use Rattle.couple_report.specs.CoupleFound.{CoupledForm}
use Rattle.couple_report.specs.declared.forms.FormPair.{FormPair}
use Rattle.couple_report.specs.declared.together.Together.{Together}

-- two irreps under a quotient
abbrev pub chosen_pair_by : ℕ → SupercellGroup → IrrepText → IrrepText → ChosenPair
chosen_pair_by format q i j = record { left = chosen_by format q i; right = chosen_by format q j }

-- two irreps of a file, under its quotient
abbrev pub chosen_pair : Divided → IrrepText → IrrepText → ChosenPair
chosen_pair d i j = chosen_pair_by d.file.format d.quotient i j

-- the places of the two that are asked for
abbrev pub ArePlaces : Option (List ℕ) → List ℕ → Divided → ℕ × ℕ → Type 0
ArePlaces wanted other d k = IsPlaceOf wanted d.file.irreps k.0 × IsPlaceOf (Some other) d.file.irreps k.1

-- two real forms, as the definitions name them
abbrev pub formed_pair : ChosenPair → FormPair → FormedPair
formed_pair p f = record { left = formed_by p.left f.left; right = formed_by p.right f.right }

-- two real forms of few dimensions of the quotient
pub record IsPairHeld (q : SupercellGroup) (f : FormPair) : Type 0 where
  pub left : quotient_of f.left ≡ q
  pub right : quotient_of f.right ≡ q
  pub left_few : (action_of f.left).dim ≤ 24
  pub right_few : (action_of f.right).dim ≤ 24

-- two real forms, by what is told of both
abbrev pub formed_in : Together → FormPair → FormedPair
formed_in t f = record {
  left = record { format = t.format; quotient = t.quotient; name = t.name; act = action_of f.left };
  right = record { format = t.format; quotient = t.quotient; name = t.other; act = action_of f.right };
}

-- what is told of two real forms
pub record AreTogether (t : Together) (f : FormPair) : Type 0 where
  pub held : IsPairHeld t.quotient f
  pub dim : t.dim ≡ (action_of f.left).dim
  pub other_dim : t.other_dim ≡ (action_of f.right).dim

-- both as one
abbrev pub coupled_in : Together → Action → CoupledForm
coupled_in t act = record { format = t.format; quotient = t.quotient; name = t.name; other = t.other; dim = t.dim; other_dim = t.other_dim; act = act }

-- the quotient acts on the few dimensions of both
pub record IsTogether (t : Together) (act : Action) : Type 0 where
  pub order : act.group.order ≡ order_of t.quotient
  pub dim : act.dim ≡ t.dim + t.other_dim
  pub few : act.dim ≤ 24

-- the listing of the directions of pairs, its equations whole forms
pub record AreCoupledDirections (c : CoupledForm) (l : List (DirectionView K24)) : Type 0 where
  pub listing : IsListing k24_laws k24.cmp c.act (order_by c.format) (directions_of k24_laws exact24 l)
  pub forms : AreWholeForms k24_laws exact24 c.act.dim (map (λ d. d.equations) l)
