-- The elements that leave an atom in its place.
--
-- IsSiteOf orbit i stab: the numbers of all elements that leave atom i in its place, rising
use Rattle.std.specs.Prelude.{◌≡◌, ℕ, List}
use Rattle.algebra.specs.RisingLists.{IsRisingListOf}
use Rattle.wyckoff.specs.Orbit.{OrbitView, image_of}

abbrev pub IsSiteOf : OrbitView → ℕ → List ℕ → Type 0
IsSiteOf orbit i = IsRisingListOf orbit.order (λ q. image_of orbit q i ≡ i)
