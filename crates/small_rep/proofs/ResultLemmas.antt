-- Facts for one outcome of a call.
use Rattle.std.proofs.Common.{◌≡◌, refl, Result, Ok, Err, IfOk, OnErr, IsErr}

pub on_err : {T E : Type 0} (r : Result T E) (P : Type 0) → P → OnErr r P
on_err (Ok x) P p = tt
on_err (Err e) P p = p

pub on_err_if : {T E : Type 0} (r : Result T E) (P : Type 0) → (IsErr r → P) → OnErr r P
on_err_if (Ok x) P f = tt
on_err_if (Err e) P f = f refl

pub if_ok : {T E : Type 0} (r : Result T E) (P Q : T → Type 0) → ((x : T) → P x → Q x) → IfOk r P → IfOk r Q
if_ok (Ok x) P Q f h = f x h
if_ok (Err e) P Q f h = h

pub on_err_map : {T E : Type 0} (r : Result T E) (P Q : Type 0) → (P → Q) → OnErr r P → OnErr r Q
on_err_map (Ok x) P Q f h = tt
on_err_map (Err e) P Q f h = f h
