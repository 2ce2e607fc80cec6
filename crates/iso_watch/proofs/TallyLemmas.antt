-- Steps of a tally.
use Rattle.std.proofs.Common.{◌≡◌, ℕ, ℤ, pos, zero, suc, ◌+◌, ◌<◌, ◌≤◌, min, false, List, [], ◌∷◌, ◌++◌, take, ◌∙◌, sym, append_assoc, length, map, set, get_or, refl, ap, arith}
use Rattle.std.specs.List.{flat_map, enumerate_from}
use Rattle.std.specs.Prelude.{codes}
use Rattle.std.proofs.lemmas.List.{append-nil}
use Rattle.iso_watch.specs.declared.notice.Notice.{Notice}
use Rattle.iso_watch.specs.Watchers.{Watcher, after}
use Rattle.iso_watch.specs.Tally.{one_more_at, count_words, tally_step, tally_words, tally_of}

counted : (counts : List ℕ) (i d y : ℕ) → i < length counts → y ≡ min (get_or counts i d + 1) 18446744073709551615 → map (λ n. pos n) (set counts i y) ≡ one_more_at i (map (λ n. pos n) counts)
counted [] i d y within is = absurd (omega arith)
counted (x ∷ xs) zero d y within is = ap (λ n. pos n ∷ map (λ k. pos k) xs) is
counted (x ∷ xs) (suc i) d y within is = ap (λ t. pos x ∷ t) (counted xs i d y (omega arith) is)

past_end : (counts : List ℕ) (i : ℕ) → length counts ≤ i → map (λ n. pos n) counts ≡ one_more_at i (map (λ n. pos n) counts)
past_end [] i fits = refl
past_end (x ∷ xs) zero fits = absurd (omega arith)
past_end (x ∷ xs) (suc i) fits = ap (λ t. pos x ∷ t) (past_end xs i (omega arith))

-- a tally with this mark
abbrev with_mark : List ℤ → Watcher
with_mark mark = record { mark = mark; step = tally_step; stop = λ m. false; words = tally_words }

-- told of a dimension that is counted
pub told-inside : (old counts : List ℕ) (n : Notice) (i y : ℕ) → counts ≡ old → i ≡ n.dim → i < length counts → y ≡ min (get_or counts i 0 + 1) 18446744073709551615
    → tally_of (set counts i y) ≡ after (n ∷ []) (tally_of old)
told-inside old counts n i y same at within is =
    ap with_mark (counted counts i 0 y within is ∙ ap (λ k. one_more_at k (map (λ n. pos n) counts)) at ∙ ap (λ ks. one_more_at n.dim (map (λ n. pos n) ks)) same)

-- told of a dimension that isn't
pub told-outside : (old : List ℕ) (n : Notice) → length old ≤ n.dim → tally_of old ≡ after (n ∷ []) (tally_of old)
told-outside old n past = ap with_mark (past_end old n.dim past)

-- one more of the numbered counts
numbered_more : (f : ℕ × ℤ → List ℕ) (n i : ℕ) (counts : List ℕ) (d : ℕ) → i < length counts
    → flat_map f (enumerate_from n (map (λ k. pos k) (take (suc i) counts))) ≡ flat_map f (enumerate_from n (map (λ k. pos k) (take i counts))) ++ f (n + i, pos (get_or counts i d))
numbered_more f n i [] d within = absurd (omega arith)
numbered_more f n zero (x ∷ xs) d within =
    let e : n ≡ n + 0 = omega arith in
    append-nil (f (n, pos x)) ∙ ap (λ k. f (k, pos x)) e
numbered_more f n (suc i) (x ∷ xs) d within =
    let e : (n + 1) + i ≡ n + suc i = omega arith in
    let rest = flat_map f (enumerate_from (n + 1) (map (λ k. pos k) (take i xs))) in
    ap (λ t. f (n, pos x) ++ t) (numbered_more f (n + 1) i xs d (omega arith) ∙ ap (λ k. rest ++ f (k, pos (get_or xs i d))) e)
    ∙ sym (append_assoc (f (n, pos x)) rest (f (n + suc i, pos (get_or xs i d))))

-- one more dimension
pub words-more : (counts : List ℕ) (i : ℕ) (text next : List ℕ) → i < length counts → text ≡ tally_words (map (λ n. pos n) (take i counts))
    → next ≡ text ++ count_words (i, pos (get_or counts i 0)) → next ≡ tally_words (map (λ n. pos n) (take (i + 1) counts))
words-more counts i text next within before is =
    let e : suc i ≡ i + 1 = omega arith in
    let zero_on : 0 + i ≡ i = omega arith in
    let front = flat_map count_words (enumerate_from 0 (map (λ k. pos k) (take i counts))) in
    let one = count_words (i, pos (get_or counts i 0)) in
    let more = numbered_more count_words 0 i counts 0 within ∙ ap (λ k. front ++ count_words (k, pos (get_or counts i 0))) zero_on in
    is ∙ ap (λ t. t ++ one) before ∙ append_assoc (codes "tally") front one ∙ ap (λ t. codes "tally" ++ t) (sym more)
    ∙ ap (λ k. tally_words (map (λ n. pos n) (take k counts))) e
