-- The order of ranked directions is total.
--
-- ranked_total: it is, where the order of entries is
use Rattle.std.specs.Prelude.{ℕ, List}
use Rattle.std.specs.declared.cmp.Ordering.{Ordering}
use Rattle.std.specs.Cmp.{IsTotalOrder}
use Rattle.std.proofs.lemmas.Cmp.{on_total, then_total, nat_cmp_total}
use Rattle.lin_alg.specs.CompareLaws.{lines_total}
use Rattle.class_list.specs.Ranked.{ranked_cmp}

pub ranked_total : {X A : Type 0} (first second : X → ℕ) (rows : X → List (ℕ × List A)) {R : A → A → Ordering} → IsTotalOrder R → IsTotalOrder (ranked_cmp first second rows R)
ranked_total first second rows o = then_total (on_total first nat_cmp_total) (then_total (on_total second nat_cmp_total) (on_total rows (lines_total o)))
