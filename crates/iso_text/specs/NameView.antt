-- What contracts see of a name's fields.
use Rattle.std.specs.Prelude.{◌≡◌, ℕ, ◌-◌, ◌≤◌, ◌<◌, ◌++◌, List, length, take, drop, replicate}
use Rattle.iso_text.specs.declared.name.Name.TheInside.{Inside}

-- the bytes of the name
abbrev pub view_of : Inside → List ℕ
view_of n = take n.len n.bytes

-- 1 to 16 bytes, and 0 behind them
pub record IsPadded (n : Inside) : Type 0 where
  pub some : 0 < n.len
  pub few : n.len ≤ 16
  pub width : length n.bytes ≡ 16
  pub padding : drop n.len n.bytes ≡ replicate (16 - n.len) 0

-- the fields of a name's bytes
abbrev pub inverse_of : List ℕ → Inside
inverse_of text = record { bytes = text ++ replicate (16 - length text) 0; len = length text }
