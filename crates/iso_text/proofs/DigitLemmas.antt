-- Bounds on numbers of a few digits.
use Rattle.std.proofs.Common.{ℕ, zero, suc, ◌+◌, ◌-◌, ◌*◌, ◌^◌, ◌<◌, ◌≤◌, arith, lit≤, add-one}
use Rattle.std.proofs.Math.Nat.{pow-suc}

pub ten_power : (i : ℕ) → i ≤ 6 → 10 ^ i ≤ 1000000
ten_power zero few = lit≤ tt
ten_power (suc zero) few = lit≤ tt
ten_power (suc (suc zero)) few = lit≤ tt
ten_power (suc (suc (suc zero))) few = lit≤ tt
ten_power (suc (suc (suc (suc zero)))) few = lit≤ tt
ten_power (suc (suc (suc (suc (suc zero))))) few = lit≤ tt
ten_power (suc (suc (suc (suc (suc (suc zero)))))) few = lit≤ tt
ten_power (suc (suc (suc (suc (suc (suc (suc i))))))) few = absurd (omega arith)

-- one more digit
pub next_digit : (n i c : ℕ) → n < 10 ^ i → c < 58 → 10 * n + (c - 48) < 10 ^ (i + 1)
next_digit n i c small digit = rw (add-one, pow-suc) (omega arith)
