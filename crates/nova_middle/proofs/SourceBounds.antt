-- The bounds of a single-use form, by the expanded size and the room of a source.
use Rattle.std.proofs.Common.{ℕ, zero, suc, ◌+◌, ◌*◌, ◌≤◌, sym, subst, arith}
use Rattle.std.proofs.Math.Nat.{le_trans, max-eq_left}
use Rattle.nv_base.specs.Measures.{Bulk, IsAtMost, of_size}
use Rattle.ssu_make.specs.Bounds.{size_bound, length_bound}
use Rattle.nova_middle.proofs.Single.{more_size, more_length}

one-times : (e r : ℕ) → 1 ≤ e → r ≤ e * r
one-times zero r h = elim h [ ]
one-times (suc e) r h = grind arith

-- with p the product of e and r
size_sum : (e r p : ℕ) → 1 ≤ e → r ≤ p → (e + 2 * p) + ((e + 9 * p + 1 + 9 * r) + (e + 2 * e + 9 * (2 * e))) ≤ 48 * (p + 8 * e)
size_sum e r p one h = omega arith

code_sum : (e r p : ℕ) → 1 ≤ e → r ≤ p → 3 * p + ((e + 21 * p + 1 + 21 * r) + (2 * e + 4 * e + 18 * (2 * e))) + 24 ≤ 48 * (p + 8 * e)
code_sum e r p one h = omega arith

size_whole : (e r : ℕ) → 1 ≤ e → e * (1 + 2 * r) + ((e + 1) * (1 + 9 * r) + (e + 2 * e + 9 * (2 * e))) ≤ 48 * (e * (r + 8))
size_whole e r one = let h : r ≤ e * r = one-times e r one in let s = size_sum e r (e * r) one h in grind arith

code_whole : (e r : ℕ) → 1 ≤ e → e * (3 * r) + ((e + 1) * (1 + 21 * r) + (2 * e + 4 * e + 18 * (2 * e))) + 24 ≤ 48 * (e * (r + 8))
code_whole e r one = let h : r ≤ e * r = one-times e r one in let s = code_sum e r (e * r) one h in grind arith

pub size_end : (e r w : ℕ) (b : Bulk) → 1 ≤ e → 8 ≤ r → w ≤ r → IsAtMost b (of_size e) → size_bound w b ≤ 48 * (e * (r + 8))
size_end e r w b one eight h m =
    le_trans (more_size w r b (of_size e) h m)
    (subst (λ k. e * (1 + 2 * r) + ((e + 1) * (1 + 9 * k) + (e + 2 * e + 9 * (2 * e))) ≤ 48 * (e * (r + 8))) (sym (max-eq_left eight)) (size_whole e r one))

pub code_end : (e r w : ℕ) (b : Bulk) → 1 ≤ e → 8 ≤ r → w ≤ r → IsAtMost b (of_size e) → length_bound w b ≤ 48 * (e * (r + 8))
code_end e r w b one eight h m =
    le_trans (more_length w r b (of_size e) h m)
    (subst (λ k. e * (3 * r) + ((e + 1) * (1 + 21 * k) + (2 * e + 4 * e + 18 * (2 * e))) + 24 ≤ 48 * (e * (r + 8))) (sym (max-eq_left eight)) (code_whole e r one))
