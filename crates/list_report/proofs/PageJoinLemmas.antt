-- Pages of the report of `list` join.
use Rattle.std.proofs.Common.{◌≡◌, ℕ, ◌+◌, ◌++◌, Option, Some, None, List, take, drop, flat_map, sym, ap, ◌∙◌, arith}
use Rattle.std.proofs.lemmas.Grind.{flat_map-append}
use Rattle.std.proofs.lemmas.List.{drop-take}
use Rattle.std.proofs.Math.Seq.{take-take}
use Rattle.std.specs.List.{enumerate_from}
use Rattle.cyclo24.specs.ExactK24.{Exact24}
use Rattle.class_list.specs.Directions.{Direction}
use Rattle.class_list.specs.Pages.{page}
use Rattle.list_report.specs.ListReport.{direction_text}
use Rattle.list_report.specs.PageLaws.{both, PagesJoin}

-- pages without count join
abbrev pub OpenPagesJoin : Type 0
OpenPagesJoin = (ds : List (Direction Exact24)) (a c : ℕ) → page a (Some c) ds ++ page (a + c) None ds ≡ page a None ds

module _ (open_join : OpenPagesJoin) where
  -- a page with a count is one without, of fewer directions
  counted : (ds : List (Direction Exact24)) (a n : ℕ) → page a (Some n) ds ≡ page a None (take (a + n) ds)
  counted ds a n = ap (enumerate_from (a + 1)) (sym (drop-take a n ds))

  front : (ds : List (Direction Exact24)) (a c d : ℕ) → page a (Some c) (take (a + (c + d)) ds) ≡ page a (Some c) ds
  front ds a c d = ap (enumerate_from (a + 1)) (ap (take c) (drop-take a (c + d) ds) ∙ front-take c d (drop a ds))
    where
      front-take : {X : Type 0} (c d : ℕ) (xs : List X) → take c (take (c + d) xs) ≡ take c xs
      front-take c d xs = take-take c (c + d) xs (omega arith)

  joined : (ds : List (Direction Exact24)) (a c : ℕ) (count : Option ℕ) → page a (Some c) ds ++ page (a + c) count ds ≡ page a (both c count) ds
  joined ds a c None = open_join ds a c
  joined ds a c (Some d) =
      let n : a + (c + d) ≡ a + c + d = omega arith in
      let es = take (a + (c + d)) ds in
      (λ t. sym (front ds a c d) t ++ (counted ds (a + c) d ∙ ap (λ k. page (a + c) None (take k ds)) (sym n)) t) ∙ open_join es a c ∙ sym (counted ds a (c + d))

  pub pages-joined : PagesJoin
  pages-joined q dim ds a c count = sym (flat_map-append (direction_text q dim) (page a (Some c) ds) (page (a + c) count ds)) ∙ ap (flat_map (direction_text q dim)) (joined ds a c count)
