-- The table of the pieces of a report of modes, as the program fills it.
use Rattle.std.proofs.Common.{◌≡◌, sym, ap, ◌∙◌, ℕ, ◌+◌, ◌<◌, List, [], ◌∷◌, ◌++◌, length, take, get_or, map, flat_map, arith, append_assoc}
use Rattle.std.specs.List.{enumerate_from, range_with_len}
use Rattle.std.proofs.lemmas.List.FromFn.{map-range_with_len_more}
use Rattle.mode_report.specs.Parts.{orbit_parts, parts_of}
use Rattle.mode_report.specs.ReportLaws.{numbered-take}
use Rattle.mode_report.specs.declared.parts.Part.{Part}
use Rattle.mode_report.specs.declared.parts.Part.TheVariants.{Front, Orbit, Mode}

-- one mode more
pub modes-more : {X : Type 0} (g : ℕ → X) (old now new : List X) (m : ℕ) → now ≡ old ++ map g (range_with_len 0 m) → new ≡ now ++ g m ∷ [] → new ≡ old ++ map g (range_with_len 0 (m + 1))
modes-more g old now new m a b =
    b ∙ ap (λ t. t ++ g m ∷ []) a ∙ append_assoc old (map g (range_with_len 0 m)) (g m ∷ []) ∙ ap (λ t. old ++ t) (sym (map-range_with_len_more g 0 m m (omega arith)))

-- one orbit more
pub orbit-more : (counts : List ℕ) (now one new : List Part) (i n : ℕ) → i < length counts → now ≡ parts_of (take i counts) → one ≡ now ++ Orbit i ∷ [] → new ≡ one ++ map (λ m. Mode i m) (range_with_len 0 n)
    → n ≡ get_or counts i 0 → new ≡ parts_of (take (i + 1) counts)
orbit-more counts now one new i n l a b e s =
    let modes = map (λ m. Mode i m) (range_with_len 0 n) in
    let part = flat_map orbit_parts (enumerate_from 0 (take i counts)) in
    let z : i ≡ 0 + i = omega arith in
    e ∙ ap (λ t. t ++ modes) b ∙ append_assoc now (Orbit i ∷ []) modes ∙ ap (λ t. t ++ orbit_parts (i, n)) a ∙ (λ j. Front ∷ (part ++ orbit_parts (z j, s j)))
    ∙ ap (λ t. Front ∷ t) (sym (numbered-take orbit_parts 0 counts i 0 l))
