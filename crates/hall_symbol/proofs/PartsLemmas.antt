-- The parts that are read of a list of words, one by one.
use Rattle.std.proofs.Common.{◌≡◌, ◌∙◌, ap, true, false, List, [], ◌∷◌, ◌++◌, Option, Some, None, refl, sym, option_map, ℕ}
use Rattle.hall_symbol.specs.declared.generator.Generator.{Generator}
use Rattle.hall_symbol.specs.Steps.{◌>>=◌}
use Rattle.hall_symbol.specs.SymbolReading.{parts_at, generator_in, ends_parts}
use Rattle.hall_symbol.specs.ShiftReading.{is_byte}

pub parts_at-ends : (before : List Generator) (ws : List (List ℕ)) → ends_parts ws ≡ true → parts_at before ws ≡ Some (before, ws)
unfolding parts_at
parts_at-ends before [] h = refl
parts_at-ends before (w ∷ ws) h = rw h refl

parts_at-word : (before : List Generator) (w : List ℕ) (ws : List (List ℕ)) → is_byte 40 w ≡ false → parts_at before (w ∷ ws) ≡ (generator_in before w >>= λ g. parts_at (before ++ g ∷ []) ws)
unfolding parts_at
parts_at-word before w ws h = rw h refl

pub parts_at-more : (before : List Generator) (all : List (List ℕ)) (w : List ℕ) (ws : List (List ℕ)) (g : Generator)
    → all ≡ w ∷ ws → is_byte 40 w ≡ false → generator_in before w ≡ Some g → parts_at before all ≡ parts_at (before ++ g ∷ []) ws
parts_at-more before all w ws g e other read = ap (parts_at before) e ∙ parts_at-word before w ws other ∙ ap (λ o. o >>= λ h. parts_at (before ++ h ∷ []) ws) read

pub parts_at-none : (before : List Generator) (all : List (List ℕ)) (w : List ℕ) (ws : List (List ℕ))
    → all ≡ w ∷ ws → is_byte 40 w ≡ false → generator_in before w ≡ None → parts_at before all ≡ None
parts_at-none before all w ws e other read = ap (parts_at before) e ∙ parts_at-word before w ws other ∙ ap (λ o. o >>= λ h. parts_at (before ++ h ∷ []) ws) read

-- two readings that both gave nothing
pub none-same : {A B : Type 0} (f : A → B) (o : Option A) (r : Option B) → o ≡ None → r ≡ None → option_map f o ≡ r
none-same f o r e g = ap (option_map f) e ∙ sym g
