-- Steps of loops over a list of watchers.
use Rattle.std.proofs.Common.{◌≡◌, ℕ, ◌+◌, ◌<◌, ◌≤◌, true, List, [], ◌∷◌, ◌++◌, length, map, take, drop, set, get_or, sym, ◌∙◌, ap, arith}
use Rattle.std.proofs.lemmas.List.{length-map, get_or-map, map-append, take_more, take_more_set, drop_more}
use Rattle.std.proofs.lemmas.List.Folds.{list_any_at}
use Rattle.std.proofs.lemmas.Grind.{common_steps}
use Rattle.iso_watch.specs.Watchers.{Watcher, is_enough, has_enough}

-- what is at the place is what was there, and so is what follows
pub record Behind {W : Type 0} (old now : List W) (i : ℕ) (w : W) : Type 0 where
  pub here : get_or old i w ≡ get_or now i w
  pub others : drop (i + 1) now ≡ drop (i + 1) old

pub behind : {W : Type 0} (old now : List W) (i : ℕ) (w : W) → i < length now → i < length old → drop i now ≡ drop i old → Behind old now i w
behind old now i w in_now in_old same =
    let a = drop_more now i w in_now in
    let b = drop_more old i w in_old in
    let both : get_or now i w ∷ drop (i + 1) now ≡ get_or old i w ∷ drop (i + 1) old = sym a ∙ same ∙ b in
    record { here = cc; others = cc }

take_whole : {W : Type 0} (i : ℕ) (xs : List W) → length xs ≤ i → take i xs ≡ xs
take_whole i xs fits = grind (arith, common_steps)

module _ {W : Type 0} (see : W → Watcher) where
  -- one more of them is seen
  pub seen_more : (ws : List W) (i : ℕ) (d : W) → i < length ws → map see (take (i + 1) ws) ≡ map see (take i ws) ++ see (get_or ws i d) ∷ []
  seen_more ws i d within = ap (map see) (take_more ws i d within) ∙ map-append see (take i ws) (get_or ws i d ∷ [])

  -- one more of them is changed
  pub changed_more : (f : Watcher → Watcher) (old now : List W) (i : ℕ) (d w v : W) → i < length now → i < length old → get_or old i d ≡ w
      → map see (take i now) ≡ map f (map see (take i old)) → see v ≡ f (see w)
      → map see (take (i + 1) (set now i v)) ≡ map f (map see (take (i + 1) old))
  changed_more f old now i d w v in_now in_old same before here =
      let left = ap (map see) (take_more_set now i v in_now) ∙ map-append see (take i now) (v ∷ []) in
      let right = ap (map f) (seen_more old i d in_old) ∙ map-append f (map see (take i old)) (see (get_or old i d) ∷ []) in
      left ∙ ap (λ t. t ++ see v ∷ []) before ∙ ap (λ x. map f (map see (take i old)) ++ x ∷ []) (here ∙ ap (λ x. f (see x)) (sym same)) ∙ sym right

  -- one of them has enough
  pub some_at : (ws : List W) (i : ℕ) (d : W) → i < length ws → d ≡ get_or ws i d → is_enough (see d) ≡ true → has_enough (map see ws) ≡ true
  some_at ws i d within same here =
      let len : i < length (map see ws) = omega (arith, length-map ws see) in
      list_any_at is_enough (map see ws) i (see d) len (ap is_enough (get_or-map see ws i d (see d) within ∙ ap see (sym same)) ∙ here)

  -- all of them are changed
  pub told_whole : (f : Watcher → Watcher) (old now : List W) (i : ℕ) → length old ≤ i → length now ≤ i → map see (take i now) ≡ map f (map see (take i old)) → map see now ≡ map f (map see old)
  told_whole f old now i old_fits now_fits told =
      let a : take i old ≡ old = take_whole i old old_fits in
      let b : take i now ≡ now = take_whole i now now_fits in
      ap (map see) (sym b) ∙ told ∙ ap (λ xs. map f (map see xs)) a
