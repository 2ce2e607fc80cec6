-- Complex vectors of n entries as real ones of 2n entries: the n real parts, then the n imaginary parts.
--
-- Parts Z K: a field of complex numbers over a field of real ones, and the maps between them
-- parts p n w: the complex vector w as a real one
-- lifted p n v: the real vector v as a complex one
-- orbit p n D w q: D(q) w as a real vector
-- real_image p n D q v: the image of the real vector v under D(q)
use Rattle.std.specs.Prelude.{◌≡◌, ℕ, ◌+◌, ◌-◌, ltb, if◌then◌else◌}
use Rattle.cyclo24.specs.FieldOn.{FieldOn}
use Rattle.lin_alg.specs.Matrices.{apply}

-- complex numbers re + i im over real ones
pub record Parts (Z K : Type 0) : Type 0 where
  pub complex : FieldOn Z
  pub real : FieldOn K
  pub re : Z → K
  pub im : Z → K
  pub from : K → Z
  pub imaginary : Z
  pub re-plus : (x y : Z) → re (complex.plus x y) ≡ real.plus (re x) (re y)
  pub im-plus : (x y : Z) → im (complex.plus x y) ≡ real.plus (im x) (im y)
  pub re-times : (c : K) (x : Z) → re (complex.times (from c) x) ≡ real.times c (re x)
  pub im-times : (c : K) (x : Z) → im (complex.times (from c) x) ≡ real.times c (im x)
  pub re-parts : (a b : K) → re (complex.plus (from a) (complex.times imaginary (from b))) ≡ a
  pub im-parts : (a b : K) → im (complex.plus (from a) (complex.times imaginary (from b))) ≡ b
  pub whole : (x : Z) → x ≡ complex.plus (from (re x)) (complex.times imaginary (from (im x)))
  pub from-plus : (a b : K) → from (real.plus a b) ≡ complex.plus (from a) (from b)
  pub from-times : (a b : K) → from (real.times a b) ≡ complex.times (from a) (from b)

-- the real parts of the n entries, then their imaginary parts
unfoldable pub parts : {Z K : Type 0} → Parts Z K → ℕ → (ℕ → Z) → ℕ → K
parts p n w j = if ltb j n then p.re (w j) else (if ltb j (n + n) then p.im (w (j - n)) else p.real.nought)

-- the n entries a + i b
unfoldable pub lifted : {Z K : Type 0} → Parts Z K → ℕ → (ℕ → K) → ℕ → Z
lifted p n v j = if ltb j n then p.complex.plus (p.from (v j)) (p.complex.times p.imaginary (p.from (v (n + j)))) else p.complex.nought

-- D(q) w
unfoldable pub orbit : {Z K : Type 0} → Parts Z K → ℕ → (ℕ → ℕ → ℕ → Z) → (ℕ → Z) → ℕ → ℕ → K
orbit p n D w q = parts p n (apply p.complex n (D q) w)

-- the image of a real vector
abbrev pub real_image : {Z K : Type 0} → Parts Z K → ℕ → (ℕ → ℕ → ℕ → Z) → ℕ → (ℕ → K) → ℕ → K
real_image p n D q v = orbit p n D (lifted p n v) q
