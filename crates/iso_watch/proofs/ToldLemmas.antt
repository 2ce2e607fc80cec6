-- Pages that watchers are told of.
use Rattle.std.proofs.Common.{◌≡◌, ◌⊎◌, inl, inr, ℕ, ℤ, ◌+◌, ◌<◌, ◌≤◌, true, false, IsTrue, List, [], ◌∷◌, ◌++◌, length, map, take, get_or, refl, sym, ◌∙◌, ap, subst, arith}
use Rattle.std.proofs.lemmas.List.{take_more}
use Rattle.std.proofs.lemmas.List.Sums.{fold-append}
use Rattle.std.proofs.lemmas.Bool.{cases_order}
use Rattle.std.proofs.Math.Nat.{eq-or-lt_of_le}
use Rattle.iso_watch.specs.declared.notice.Notice.{Notice}
use Rattle.iso_watch.specs.Watchers.{Watcher, after, has_enough, Told, EndsAfter}
use Rattle.iso_watch.specs.WatchersLaws.{EndsOnce, ToldInTurn, ToldNone}

-- a mark in place of another
abbrev with_mark : Watcher → List ℤ → Watcher
with_mark w m = record { mark = m; step = w.step; stop = w.stop; words = w.words }

-- after the one and then the other
after-after : (ms ns : List Notice) (w : Watcher) → after ns (after ms w) ≡ after (ms ++ ns) w
after-after ms ns w = ap (with_mark w) (sym (fold-append w.step w.mark ms ns))

all-after-after : (ms ns : List Notice) (ws : List Watcher) → map (after ns) (map (after ms) ws) ≡ map (after (ms ++ ns)) ws
all-after-after ms ns [] = refl
all-after-after ms ns (w ∷ ws) = ap (λ v. v ∷ map (after ns) (map (after ms) ws)) (after-after ms ns w) ∙ ap (λ vs. after (ms ++ ns) w ∷ vs) (all-after-after ms ns ws)

pub told-turn : ToldInTurn
told-turn ms ns old mid new a b = b ∙ ap (map (after ns)) a ∙ all-after-after ms ns old

pub after-none : (ws : List Watcher) → map (after []) ws ≡ ws
after-none [] = refl
after-none (w ∷ ws) = ap (λ vs. w ∷ vs) (after-none ws)

pub told-none : ToldNone
told-none old new told = told ∙ after-none old

-- told of one more notice of a list
pub told-more : (ns : List Notice) (i : ℕ) (d : Notice) (old mid new : List Watcher) → i < length ns → Told (take i ns) old mid → Told (get_or ns i d ∷ []) mid new → Told (take (i + 1) ns) old new
told-more ns i d old mid new within a b =
    subst (λ xs. Told xs old new) (sym (take_more ns i d within)) (told-turn (take i ns) (get_or ns i d ∷ []) old mid new a b)

-- no front of the first i has enough
abbrev pub NoneBelow : List Notice → List Watcher → ℕ → Type 0
NoneBelow ns ws i = (j : ℕ) → 0 < j → j ≤ i → has_enough (map (after (take j ns)) ws) ≡ false

-- no front is below the first
pub none-zero : {W : Type 0} (see : W → Watcher) (ns : List Notice) (ws : List W) → NoneBelow ns (map see ws) 0
none-zero see ns ws j some most = absurd (omega arith)

-- nor has the front with one more
pub none-below : (ns : List Notice) (old new : List Watcher) (i : ℕ) → NoneBelow ns old i → Told (take (i + 1) ns) old new → has_enough new ≡ false → NoneBelow ns old (i + 1)
none-below ns old new i before told here j some most = next (eq-or-lt_of_le most)
  where
    next : (j ≡ i + 1) ⊎ (j < i + 1) → has_enough (map (after (take j ns)) old) ≡ false
    next (inr few) = before j some (omega arith)
    next (inl e) = ap (λ k. has_enough (map (after (take k ns)) old)) e ∙ ap has_enough (sym told) ∙ here

-- a page that ends where one of them has enough
pub ended : (ns : List Notice) (old new : List Watcher) (i k : ℕ) → k ≡ i + 1 → i < length ns → NoneBelow ns old i → Told (take (i + 1) ns) old new → has_enough new ≡ true → EndsAfter ns old k
ended ns old new i k is within before told here =
    let at : has_enough (map (after (take k ns)) old) ≡ true = ap (λ j. has_enough (map (after (take j ns)) old)) is ∙ ap has_enough (sym told) ∙ here in
    record {
      within = omega arith;
      some = λ full. omega arith;
      not_before = λ j some less. before j some (omega arith);
      ends = inr at;
    }

-- a page that is told whole
pub whole : (ns : List Notice) (old : List Watcher) (k : ℕ) → k ≡ length ns → NoneBelow ns old k → EndsAfter ns old k
whole ns old k is before = record {
  within = omega arith;
  some = λ full. omega arith;
  not_before = λ j some less. before j some (omega arith);
  ends = inl is;
}

-- a page can't end before where it ends
no-earlier : (ns : List Notice) (ws : List Watcher) (j k : ℕ) → EndsAfter ns ws j → EndsAfter ns ws k → j < k → ⊥
no-earlier ns ws j k a b less = by-end a.ends
  where
    by-end : ((j ≡ length ns) ⊎ IsTrue (has_enough (map (after (take j ns)) ws))) → ⊥
    by-end (inl e) = absurd (omega (arith, b.within))
    by-end (inr t) =
        let some : 0 < j = a.some (omega (arith, b.within)) in
        let none = b.not_before j some less in
        cc

pub ends-once : EndsOnce
ends-once ns ws j k a b = by-order (cases_order j k)
  where
    by-order : (j ≡ k) ⊎ ((j < k) ⊎ (k < j)) → j ≡ k
    by-order (inl e) = e
    by-order (inr (inl l)) = absurd (no-earlier ns ws j k a b l)
    by-order (inr (inr l)) = absurd (no-earlier ns ws k j b a l)
