-- The Hall symbols of the demo files, and their groups.
--
-- demo-symbol: the text of each number is a Hall symbol, whose words have neither too many rotations nor an extra translation
-- few-demo, pure-demo: the same of what is read of the text
use Rattle.std.proofs.Common.{◌≡◌, refl, subst, sym, inl, inr, ℕ, ◌%◌, ◌==◌, if◌then◌else◌, ◌<◌, Bool, true, false, ℤ, pos, List, [], ◌∷◌, ◌++◌, map, length, codes, arith, None, All}
use Rattle.std.proofs.lemmas.List.Elements.{All-nil, All-cons}
use Rattle.algebra.specs.Whole.{whole}
use Rattle.iso_text.specs.Lines.{trimmed}
use Rattle.space_ops.specs.declared.op.Op.{Op}
use Rattle.space_ops.specs.declared.lattice.Lattice.{Lattice}
use Rattle.space_ops.specs.declared.lattice.Lattice.TheVariants.{P}
use Rattle.space_ops.specs.Matrix.{Matrix, matrix_times, unit_matrix, zero_vector}
use Rattle.space_ops.specs.Op.{seitz_of, matrix_of}
use Rattle.space_ops.specs.Seitz.{Seitz, seitz_inverse, inverse_matrix}
use Rattle.space_ops.specs.LatticeLaws.{zero-lattice, below_three, below_four}
use Rattle.space_ops.specs.Words.{op_at, IsLatticeVector, HasTooManyRotations, HasExtraTranslation}
use Rattle.hall_symbol.specs.declared.generator.Generator.{Generator}
use Rattle.hall_symbol.specs.declared.rotation.Order.{Order}
use Rattle.hall_symbol.specs.declared.rotation.Order.TheVariants as order
use Rattle.hall_symbol.specs.declared.rotation.Rotation.{Rotation}
use Rattle.hall_symbol.specs.declared.rotation.Rotation.TheVariants.{TwoZ, TwoX, FourZ, ThreeStar}
use Rattle.hall_symbol.specs.Grammar.{IsHallSymbol, head_text}
use Rattle.hall_symbol.specs.Operations.{op_at_origin, generator_rows, inversion, inversion_of}
use Rattle.hall_symbol.specs.Rotations.{rotation_rows}
use Rattle.hall_symbol.specs.Spelling.{Spelling, IsSpelling, text_of}
use Rattle.hall_symbol.specs.Words.{AreWords}
use Rattle.demo_files.specs.Demo.{symbol_text}
use Rattle.demo_files.proofs.KeepingLemmas.{IsKeeping, IsKeepingStep, product-keeps, few-kept, pure-kept}
use Rattle.demo_files.proofs.CubicMatrices.{cubic, place_of, matrix_at, place-below, is-kept, small-at, unit-kept}

-- a part that is its order alone
abbrev plain : Order → Spelling
plain n = record { negated = false; order = n; front = 0; axis = None; back = 0; letters = [] }

-- of three parts that are spelled
three : {A : Type 0} (Q : A → Type 0) (x y z : A) → Q x → Q y → Q z → All Q (x ∷ y ∷ z ∷ [])
three Q x y z p q r = All-cons Q x (y ∷ z ∷ []) p (All-cons Q y (z ∷ []) q (All-cons Q z [] r (All-nil Q)))

plain-spelling : (n : Order) → IsSpelling (plain n)
plain-spelling n = record { front = omega arith; back = omega arith; one_digit = inl refl; letters = refl }

abbrev named : Rotation → Generator
named r = record { rotation = r; negated = false; screw = 0 ∷ 0 ∷ 0 ∷ []; letters = 0 ∷ 0 ∷ 0 ∷ [] }

abbrev nowhere : List ℤ
nowhere = pos 0 ∷ pos 0 ∷ pos 0 ∷ []

-- a first part of this order, then 2 and 3
abbrev spellings : Order → List Spelling
spellings n = plain n ∷ plain order.Two ∷ plain order.Three ∷ []

abbrev rotations : Rotation → List Generator
rotations r = named r ∷ named TwoX ∷ named ThreeStar ∷ []

abbrev operations : Bool → Rotation → List Op
operations inverted r = map (op_at_origin nowhere) (inversion_of inverted ++ rotations r)

-- the words of the text
words-two : AreWords (head_text false P ∷ (map text_of (spellings order.Two) ++ [])) (codes "P 2 2 3")
words-two = (
  [],
  codes " 2 2 3",
  refl,
  refl,
  inr refl,
  (codes " ", codes " 2 3", refl, refl, inr refl, (codes " ", codes " 3", refl, refl, inr refl, (codes " ", [], refl, refl, inr refl, refl))),
)

words-four : AreWords (head_text false P ∷ (map text_of (spellings order.Four) ++ [])) (codes "P 4 2 3")
words-four = (
  [],
  codes " 4 2 3",
  refl,
  refl,
  inr refl,
  (codes " ", codes " 2 3", refl, refl, inr refl, (codes " ", codes " 3", refl, refl, inr refl, (codes " ", [], refl, refl, inr refl, refl))),
)

words-two-inverted : AreWords (head_text true P ∷ (map text_of (spellings order.Two) ++ [])) (codes "-P 2 2 3")
words-two-inverted = (
  [],
  codes " 2 2 3",
  refl,
  refl,
  inr refl,
  (codes " ", codes " 2 3", refl, refl, inr refl, (codes " ", codes " 3", refl, refl, inr refl, (codes " ", [], refl, refl, inr refl, refl))),
)

words-four-inverted : AreWords (head_text true P ∷ (map text_of (spellings order.Four) ++ [])) (codes "-P 4 2 3")
words-four-inverted = (
  [],
  codes " 4 2 3",
  refl,
  refl,
  inr refl,
  (codes " ", codes " 2 3", refl, refl, inr refl, (codes " ", codes " 3", refl, refl, inr refl, (codes " ", [], refl, refl, inr refl, refl))),
)

symbol-two : IsHallSymbol (codes "P 2 2 3") P (operations false TwoZ)
symbol-two = record {
  inverted = false;
  parts = spellings order.Two;
  ending = [];
  words = words-two;
  some = omega arith;
  few = omega arith;
  spelled = three IsSpelling (plain order.Two) (plain order.Two) (plain order.Three) (plain-spelling order.Two) (plain-spelling order.Two) (plain-spelling order.Three);
  short = let e : length (trimmed (codes "P 2 2 3")) ≡ 7 = refl in omega (arith, e);
  shift = nowhere;
  shifted = inl (refl, refl);
  generators = rotations TwoZ;
  generated = refl;
  ops_are = refl;
}

symbol-two-inverted : IsHallSymbol (codes "-P 2 2 3") P (operations true TwoZ)
symbol-two-inverted = record {
  inverted = true;
  parts = spellings order.Two;
  ending = [];
  words = words-two-inverted;
  some = omega arith;
  few = omega arith;
  spelled = three IsSpelling (plain order.Two) (plain order.Two) (plain order.Three) (plain-spelling order.Two) (plain-spelling order.Two) (plain-spelling order.Three);
  short = let e : length (trimmed (codes "-P 2 2 3")) ≡ 8 = refl in omega (arith, e);
  shift = nowhere;
  shifted = inl (refl, refl);
  generators = rotations TwoZ;
  generated = refl;
  ops_are = refl;
}

symbol-four : IsHallSymbol (codes "P 4 2 3") P (operations false FourZ)
symbol-four = record {
  inverted = false;
  parts = spellings order.Four;
  ending = [];
  words = words-four;
  some = omega arith;
  few = omega arith;
  spelled = three IsSpelling (plain order.Four) (plain order.Two) (plain order.Three) (plain-spelling order.Four) (plain-spelling order.Two) (plain-spelling order.Three);
  short = let e : length (trimmed (codes "P 4 2 3")) ≡ 7 = refl in omega (arith, e);
  shift = nowhere;
  shifted = inl (refl, refl);
  generators = rotations FourZ;
  generated = refl;
  ops_are = refl;
}

symbol-four-inverted : IsHallSymbol (codes "-P 4 2 3") P (operations true FourZ)
symbol-four-inverted = record {
  inverted = true;
  parts = spellings order.Four;
  ending = [];
  words = words-four-inverted;
  some = omega arith;
  few = omega arith;
  spelled = three IsSpelling (plain order.Four) (plain order.Two) (plain order.Three) (plain-spelling order.Four) (plain-spelling order.Two) (plain-spelling order.Three);
  short = let e : length (trimmed (codes "-P 4 2 3")) ≡ 8 = refl in omega (arith, e);
  shift = nowhere;
  shifted = inl (refl, refl);
  generators = rotations FourZ;
  generated = refl;
  ops_are = refl;
}

-- a symbol whose words have neither too many rotations nor an extra translation
record IsGroupSymbol (text : List ℕ) : Type 0 where
  pub gens : List Op
  pub symbol : IsHallSymbol text P gens
  pub few : HasTooManyRotations gens P → ⊥
  pub pure : HasExtraTranslation gens P → ⊥

abbrev IsStep : Seitz ℤ → Type 0
IsStep = IsKeepingStep place_of matrix_at

abbrev Keeping : Matrix ℤ → Type 0
Keeping = IsKeeping place_of matrix_at

abbrev turn : Rotation → Matrix ℤ
turn r = matrix_of (rotation_rows r)

abbrev opposite : Matrix ℤ
opposite = matrix_of (generator_rows inversion)

keeps-opposite : Keeping opposite
unfolding place_of matrix_at cubic
keeps-opposite = is-kept opposite refl

keeps-four : Keeping (turn FourZ)
unfolding place_of matrix_at cubic
keeps-four = is-kept (turn FourZ) refl

keeps-x : Keeping (turn TwoX)
unfolding place_of matrix_at cubic
keeps-x = is-kept (turn TwoX) refl

keeps-star : Keeping (turn ThreeStar)
unfolding place_of matrix_at cubic
keeps-star = is-kept (turn ThreeStar) refl

keeps-by : (s t m : Matrix ℤ) → Keeping s → Keeping t → matrix_times whole s t ≡ m → Keeping m
keeps-by s t m h k e = subst Keeping e (product-keeps place_of matrix_at place-below s t h k)

keeps-z : Keeping (turn TwoZ)
keeps-z = keeps-by (turn FourZ) (turn FourZ) (turn TwoZ) keeps-four keeps-four refl

unit-keeps : Keeping (unit_matrix whole)
unit-keeps = keeps-by (turn TwoX) (turn TwoX) (unit_matrix whole) keeps-x keeps-x refl

keeps-four-back : Keeping (inverse_matrix whole (turn FourZ))
keeps-four-back = keeps-by (turn FourZ) (turn TwoZ) (inverse_matrix whole (turn FourZ)) keeps-four keeps-z refl

keeps-star-back : Keeping (inverse_matrix whole (turn ThreeStar))
keeps-star-back = keeps-by (turn ThreeStar) (turn ThreeStar) (inverse_matrix whole (turn ThreeStar)) keeps-star keeps-star refl

-- an operation without a translation
step : (g : Seitz ℤ) (m : Matrix ℤ) → g.rot ≡ m → g.shift ≡ zero_vector whole → Keeping m → IsStep g
step g m e z h = record { keeps = subst Keeping (sym e) h; lattice = subst (IsLatticeVector P) (sym z) (zero-lattice P) }

abbrev BothWays : Seitz ℤ → Type 0
BothWays g = IsStep g × IsStep (seitz_inverse whole g)

abbrev at_origin : Generator → Seitz ℤ
at_origin g = seitz_of (op_at_origin nowhere g)

both-opposite : BothWays (at_origin inversion)
both-opposite = (step (at_origin inversion) opposite refl refl keeps-opposite, step (seitz_inverse whole (at_origin inversion)) opposite refl refl keeps-opposite)

both-z : BothWays (at_origin (named TwoZ))
both-z = (step (at_origin (named TwoZ)) (turn TwoZ) refl refl keeps-z, step (seitz_inverse whole (at_origin (named TwoZ))) (turn TwoZ) refl refl keeps-z)

both-x : BothWays (at_origin (named TwoX))
both-x = (step (at_origin (named TwoX)) (turn TwoX) refl refl keeps-x, step (seitz_inverse whole (at_origin (named TwoX))) (turn TwoX) refl refl keeps-x)

both-star : BothWays (at_origin (named ThreeStar))
both-star =
    (step (at_origin (named ThreeStar)) (turn ThreeStar) refl refl keeps-star, step (seitz_inverse whole (at_origin (named ThreeStar))) (inverse_matrix whole (turn ThreeStar)) refl refl keeps-star-back)

both-four : BothWays (at_origin (named FourZ))
both-four = (step (at_origin (named FourZ)) (turn FourZ) refl refl keeps-four, step (seitz_inverse whole (at_origin (named FourZ))) (inverse_matrix whole (turn FourZ)) refl refl keeps-four-back)

group-symbol : (text : List ℕ) (gens : List Op) → IsHallSymbol text P gens → ((i : ℕ) → i < length gens → BothWays (op_at gens i)) → IsGroupSymbol text
group-symbol text gens h both = record {
  gens = gens;
  symbol = h;
  few = few-kept place_of matrix_at place-below unit-kept unit-keeps small-at gens (λ i l. (both i l).0) (λ i l. (both i l).1);
  pure = pure-kept place_of matrix_at place-below unit-kept unit-keeps small-at gens (λ i l. (both i l).0) (λ i l. (both i l).1);
}

group-two : IsGroupSymbol (codes "P 2 2 3")
group-two = group-symbol (codes "P 2 2 3") (operations false TwoZ) symbol-two (below_three (λ i. BothWays (op_at (operations false TwoZ) i)) both-z both-x both-star)

group-two-inverted : IsGroupSymbol (codes "-P 2 2 3")
group-two-inverted =
    group-symbol (codes "-P 2 2 3") (operations true TwoZ) symbol-two-inverted (below_four (λ i. BothWays (op_at (operations true TwoZ) i)) both-opposite both-z both-x both-star)

group-four : IsGroupSymbol (codes "P 4 2 3")
group-four = group-symbol (codes "P 4 2 3") (operations false FourZ) symbol-four (below_three (λ i. BothWays (op_at (operations false FourZ) i)) both-four both-x both-star)

group-four-inverted : IsGroupSymbol (codes "-P 4 2 3")
group-four-inverted =
    group-symbol (codes "-P 4 2 3") (operations true FourZ) symbol-four-inverted (below_four (λ i. BothWays (op_at (operations true FourZ) i)) both-opposite both-four both-x both-star)

choice : (b : Bool) (s t : List ℕ) → IsGroupSymbol s → IsGroupSymbol t → IsGroupSymbol (if b then s else t)
choice true s t h k = h
choice false s t h k = k

demo-symbol : (number : ℕ) → IsGroupSymbol (symbol_text number)
unfolding symbol_text
demo-symbol number =
    let h = number % 4 in
    choice (h == 0) _ _ group-two (choice (h == 1) _ _ group-two-inverted (choice (h == 2) _ _ group-four group-four-inverted))

-- the text has no other lattice and no other generators
abbrev pub IsOnlyOf : List ℕ → Lattice → List Op → Type 0
IsOnlyOf text lattice ops = (l : Lattice) (more : List Op) → IsHallSymbol text l more → (lattice ≡ l) × (ops ≡ more)

-- the text is no symbol
abbrev pub IsNoSymbol : List ℕ → Type 0
IsNoSymbol text = (l : Lattice) (ops : List Op) → IsHallSymbol text l ops → ⊥

pub some-demo : (number : ℕ) → IsNoSymbol (symbol_text number) → ⊥
some-demo number none = let d = demo-symbol number in none P d.gens d.symbol

pub few-demo : (number : ℕ) (lattice : Lattice) (ops : List Op) → IsOnlyOf (symbol_text number) lattice ops → HasTooManyRotations ops lattice → ⊥
few-demo number lattice ops only h =
    let d = demo-symbol number in
    let e = only P d.gens d.symbol in
    d.few (subst (λ (g : List Op). HasTooManyRotations g P) e.1 (subst (λ (l : Lattice). HasTooManyRotations ops l) e.0 h))

pub pure-demo : (number : ℕ) (lattice : Lattice) (ops : List Op) → IsOnlyOf (symbol_text number) lattice ops → HasExtraTranslation ops lattice → ⊥
pure-demo number lattice ops only h =
    let d = demo-symbol number in
    let e = only P d.gens d.symbol in
    d.pure (subst (λ (g : List Op). HasExtraTranslation g P) e.1 (subst (λ (l : Lattice). HasExtraTranslation ops l) e.0 h))
