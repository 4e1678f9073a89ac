-- What the nodes of an expression cost.
use Rattle.std.proofs.Common.{◌≡◌, ◌∙◌, refl, ap, ℕ, ◌+◌, ◌*◌, max, Bool, true, false, cond, List, [], ◌∷◌, Option, None, Some, bytes_eq, arith}
use Rattle.nv_ast.specs.Tests.{look_up, value_at}
use Rattle.nv_ast.specs.Sizes.{GroupNumbers}
use Rattle.nv_types_table.specs.declared.cost.Cost.{Cost}
use Rattle.nv_types_table.specs.inner.Cells.{still}
use Rattle.nv_types_table.specs.inner.Costs.{IsCost, two_costs, node_cost, cost_of_call}
use Rattle.nv_types_scopes.specs.inner.Standing.{Alike}

pub no_cost : IsCost (record { words = 0; size = 0; need = 0 }) 0 0 0
no_cost = record { of_words = refl; of_size = refl; of_need = refl }

pub leaf_costs : (v : ℕ) → IsCost (node_cost (still v) (record { words = 0; size = 0; need = 0 })) v (1 + v) (2 + v)
leaf_costs v = record { of_words = refl; of_size = omega arith; of_need = omega arith }

pub node_costs : (parts : Cost) (v w s n : ℕ) → IsCost parts w s n → IsCost (node_cost (still v) parts) v ((1 + v) + s) ((2 + v) + (w + n))
node_costs parts v w s n h =
    let hw = h.of_words in let hs = h.of_size in let hn = h.of_need in
    record { of_words = refl; of_size = omega arith; of_need = omega arith }

pub two_parts : (a b : Cost) (v w s t m n : ℕ) → IsCost a v s m → IsCost b w t n → IsCost (two_costs a b) (v + w) (s + t) (max m n)
two_parts a b v w s t m n h k =
    let hw = h.of_words in let hs = h.of_size in let hn = h.of_need in
    let kw = k.of_words in let ks = k.of_size in let kn = k.of_need in
    record { of_words = omega arith; of_size = omega arith; of_need = omega arith }

-- parts and then a call of a group behind
pub parts_and_call : (parts called : Cost) (w s n size need : ℕ) → IsCost parts w s n → called.words ≡ 0 → called.size ≡ still size → called.need ≡ still need → IsCost (two_costs parts called) w (size + s) (max need n)
parts_and_call parts called w s n size need h cw cs cn =
    let hw = h.of_words in let hs = h.of_size in let hn = h.of_need in
    record { of_words = omega arith; of_size = omega arith; of_need = omega arith }

-- a part and then instructions that move its bit fields
pub part_and_fields : (part : Cost) (fields w s n m : ℕ) → IsCost part w s n → fields ≡ still m → IsCost (two_costs part (record { words = 0; size = still (4 * fields); need = 0 })) w (4 * m + s) n
part_and_fields part fields w s n m h f =
    let hw = h.of_words in let hs = h.of_size in let hn = h.of_need in
    record { of_words = omega arith; of_size = omega arith; of_need = omega arith }

size_if : (t : Bool) (cost : Cost) (o : Option Cost) (n m : ℕ) → cost.size ≡ still n → (cost_of_call o).size ≡ still m → (cost_of_call (cond t (Some cost) o)).size ≡ still (cond t n m)
size_if true cost o n m h k = h
size_if false cost o n m h k = k

need_if : (t : Bool) (cost : Cost) (o : Option Cost) (n m : ℕ) → cost.need ≡ still n → (cost_of_call o).need ≡ still m → (cost_of_call (cond t (Some cost) o)).need ≡ still (cond t n m)
need_if true cost o n m h k = h
need_if false cost o n m h k = k

pub size_called : (f : List ℕ) (costs : List (List ℕ × Cost)) (sizes : GroupNumbers) → Alike (λ (cost : Cost) (n : ℕ). cost.size ≡ still n) costs sizes → (cost_of_call (look_up f costs)).size ≡ still (value_at 0 f sizes)
size_called f [] [] h = refl
size_called f ((y, a) ∷ as_) ((z, n) ∷ bs) h =
    size_if (bytes_eq f y) a (look_up f as_) n (value_at 0 f bs) h.1 (size_called f as_ bs h.2)
    ∙ ap (λ (x : List ℕ). still (cond (bytes_eq f x) n (value_at 0 f bs))) h.0
size_called f [] (b ∷ bs) h = absurd h
size_called f (a ∷ as_) [] h = absurd h

pub need_called : (f : List ℕ) (costs : List (List ℕ × Cost)) (needs : GroupNumbers) → Alike (λ (cost : Cost) (n : ℕ). cost.need ≡ still n) costs needs → (cost_of_call (look_up f costs)).need ≡ still (value_at 0 f needs)
need_called f [] [] h = refl
need_called f ((y, a) ∷ as_) ((z, n) ∷ bs) h =
    need_if (bytes_eq f y) a (look_up f as_) n (value_at 0 f bs) h.1 (need_called f as_ bs h.2)
    ∙ ap (λ (x : List ℕ). still (cond (bytes_eq f x) n (value_at 0 f bs))) h.0
need_called f [] (b ∷ bs) h = absurd h
need_called f (a ∷ as_) [] h = absurd h

pub no_words_called : (o : Option Cost) → (cost_of_call o).words ≡ 0
no_words_called None = refl
no_words_called (Some cost) = refl
