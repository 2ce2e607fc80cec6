-- The listing of a generated file's irrep, and the orders of its stabilisers.
use Rattle.std.proofs.Common.{◌≡◌, refl, sym, ap, ◌∙◌, ℕ, zero, suc, ◌+◌, ◌<◌, List, [], ◌∷◌, ◌++◌, length, take, flat_map, Some, slice_get, append_assoc, arith}
use Rattle.std.specs.Prelude.{codes, decimal}
use Rattle.std.proofs.lemmas.List.{append-nil}
use Rattle.std.proofs.lemmas.Option.{same_Some}
use Rattle.cyclo24.specs.ExactK24.{k24_laws}
use Rattle.cyclo24.specs.K24.{exact24}
use Rattle.cyclo24.specs.declared.k24.K24.{K24}
use Rattle.class_list.specs.Seen.{DirectionView, directions_of}
use Rattle.real_form.specs.RealForm.{action_of}
use Rattle.list_report.specs.Closing.{IsListed}
use Rattle.list_report.specs.Contexts.{Listed}
use Rattle.list_report.specs.HeldListings.{formed_in, AreDirections}
use Rattle.list_report.specs.declared.listed.FormedIrrep.{FormedIrrep}
use Rattle.demo_report.specs.DemoReport.{orders_of, order_word}

-- the listing of a real form
abbrev pub listing_in : FormedIrrep → List (DirectionView K24) → Listed
listing_in x ds = record { format = x.format; quotient = x.quotient; name = x.name; dim = (action_of x.form).dim; directions = directions_of k24_laws exact24 ds }

pub is-listing-in : (x : FormedIrrep) (ds : List (DirectionView K24)) → AreDirections (formed_in x) ds → IsListed (formed_in x) (listing_in x ds)
is-listing-in x ds d = record { listing = d.listing; dim = refl; format_is = refl; quotient_is = refl; name_is = refl }

-- the orders of the program's directions
abbrev pub orders_in : List (DirectionView K24) → List ℕ
orders_in ds = orders_of (directions_of k24_laws exact24 ds)

pub orders-length : (ds : List (DirectionView K24)) → length (orders_in ds) ≡ length ds
orders-length [] = refl
orders-length (d ∷ ds) = ap suc (orders-length ds)

-- the word of one direction more
orders-next : (ds : List (DirectionView K24)) (i : ℕ) (d : DirectionView K24) → i < length ds → slice_get ds i ≡ Some d
    → flat_map order_word (orders_in (take (suc i) ds)) ≡ flat_map order_word (orders_in (take i ds)) ++ order_word (length d.stabiliser)
orders-next [] i d l e = absurd (omega arith)
orders-next (x ∷ ds) zero d l e = append-nil (order_word (length x.stabiliser)) ∙ ap (λ (y : DirectionView K24). order_word (length y.stabiliser)) (same_Some x d e)
orders-next (x ∷ ds) (suc i) d l e =
    ap (λ t. order_word (length x.stabiliser) ++ t) (orders-next ds i d (omega arith) e)
    ∙ sym (append_assoc (order_word (length x.stabiliser)) (flat_map order_word (orders_in (take i ds))) (order_word (length d.stabiliser)))

pub orders-more : (ds : List (DirectionView K24)) (i : ℕ) (d : DirectionView K24) (old t0 t1 t2 : List ℕ) (n : ℕ) → i < length ds → slice_get ds i ≡ Some d → n ≡ length d.stabiliser
    → t0 ≡ old ++ flat_map order_word (orders_in (take i ds)) → t1 ≡ t0 ++ codes " " → t2 ≡ t1 ++ decimal n → t2 ≡ old ++ flat_map order_word (orders_in (take (i + 1) ds))
orders-more ds i d old t0 t1 t2 n l e s a b c =
    let part = flat_map order_word (orders_in (take i ds)) in
    let k : suc i ≡ i + 1 = omega arith in
    c ∙ (λ j. b j ++ decimal (s j)) ∙ append_assoc t0 (codes " ") (decimal (length d.stabiliser)) ∙ ap (λ t. t ++ order_word (length d.stabiliser)) a
    ∙ append_assoc old part (order_word (length d.stabiliser)) ∙ ap (λ t. old ++ t) (sym (orders-next ds i d l e)) ∙ ap (λ m. old ++ flat_map order_word (orders_in (take m ds))) k
