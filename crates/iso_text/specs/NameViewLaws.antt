-- What contracts see of a name's fields.
use Rattle.std.specs.Prelude.{◌≡◌, ◌-◌, ◌≤◌, ◌++◌, length, take, replicate}
use Rattle.std.proofs.Common.{sym, ◌∙◌, ap, arith}
use Rattle.std.proofs.lemmas.List.{take-append-drop, length-take-le}
use Rattle.iso_text.specs.declared.name.Name.TheInside.{Inside}
use Rattle.iso_text.specs.NameView.{view_of, IsPadded, inverse_of}

pub inverse_of-view_of : (n : Inside) → IsPadded n → inverse_of (view_of n) ≡ n
inverse_of-view_of n h =
    let fits : n.len ≤ length n.bytes = omega (arith, h.few, h.width) in
    let size : length (take n.len n.bytes) ≡ n.len = length-take-le n.len n.bytes fits in
    let whole : take n.len n.bytes ++ replicate (16 - n.len) 0 ≡ n.bytes = ap (λ t. take n.len n.bytes ++ t) (sym h.padding) ∙ take-append-drop n.len n.bytes in
    let first : inverse_of (view_of n) ≡ record { bytes = take n.len n.bytes ++ replicate (16 - n.len) 0; len = n.len } = ap (λ k. let m : Inside = record { bytes = take n.len n.bytes ++ replicate (16 - k) 0; len = k } in m) size in
    first ∙ ap (λ b. let m : Inside = record { bytes = b; len = n.len } in m) whole
