-- Where more variables are known, code stays formed; where more are live outside of it, it is only wider.
use Rattle.std.proofs.Common.{◌≡◌, ℕ, ◌+◌, ◌≤◌, ◌==◌, max, Bool, true, false, nat_le, nat_lt, ◌&&◌, List, [], ◌∷◌, ◌++◌, if◌then◌else◌, Option, Some, None, length, slice_get, arith}
use Rattle.std.proofs.lemmas.Bool.{and_parts, and_from}
use Rattle.nv_base.specs.Words.{prim_vars}
use Rattle.nv_base.proofs.Measures.{operands-more, let-more, entry-more, max-mono}
use Rattle.nv_base.proofs.Operands.{atom-more, atoms-more, prim-more}
use Rattle.flat_ir.specs.declared.flat.Flat.{Flat}
use Rattle.flat_ir.specs.declared.flat.Flat.TheVariants.{Let', Fetch', Store', If', Bind', Call, Raise, Try', Give}
use Rattle.flat_ir.specs.declared.flat.FlatFun.{FlatFun}
use Rattle.nv_base.specs.Sets.{different, without, Within}
use Rattle.nv_base.specs.Access.{is_known, all_known, is_primitive, can_move, is_address}
use Rattle.flat_ir.specs.Formed.{can_call, is_formed}
use Rattle.nv_base.specs.Measures.{operands_wide, let_wide, entry_wide}
use Rattle.flat_ir.specs.Wide.{live, Widths, call_wide, code_wide}
use Rattle.nv_base.proofs.Sets.{different-below, within-behind_same, within-before_same}

-- ---- formed

pub formed-more : (funs : List FlatFun) (own : ℕ) (tail : Bool) (n : ℕ) (known known' : List ℕ) (t : Flat) → Within known known' → is_formed funs own tail n known t ≡ true → is_formed funs own tail n known' t ≡ true
formed-more funs own tail n known known' (Let' x a q t) h e =
    let parts = and_parts (is_primitive known a) (is_formed funs own tail n (x ∷ known) t) e in
    and_from (is_primitive known' a) (is_formed funs own tail n (x ∷ known') t) (prim-more known known' a h parts.0)
    (formed-more funs own tail n (x ∷ known) (x ∷ known') t (within-behind_same (x ∷ []) known known' h) parts.1)
formed-more funs own tail n known known' (Fetch' m xs a q t) h e =
    let move = can_move m (length xs.items) in
    let address = is_address m a (length xs.items) in
    let rest = is_formed funs own tail n (xs.items ++ known) t in
    let rest' = is_formed funs own tail n (xs.items ++ known') t in
    let p1 = and_parts (is_known known a) (move && (address && rest)) e in
    let p2 = and_parts move (address && rest) p1.1 in
    let p3 = and_parts address rest p2.1 in
    and_from (is_known known' a) (move && (address && rest')) (atom-more known known' a h p1.0)
    (and_from move (address && rest') p2.0
    (and_from address rest' p3.0 (formed-more funs own tail n (xs.items ++ known) (xs.items ++ known') t (within-behind_same xs.items known known' h) p3.1)))
formed-more funs own tail n known known' (Store' m a bs q t) h e =
    let move = can_move m (length bs.items) in
    let address = is_address m a (length bs.items) in
    let rest = is_formed funs own tail n known t in
    let rest' = is_formed funs own tail n known' t in
    let p1 = and_parts (is_known known a) (all_known known bs.items && (move && (address && rest))) e in
    let p2 = and_parts (all_known known bs.items) (move && (address && rest)) p1.1 in
    let p3 = and_parts move (address && rest) p2.1 in
    let p4 = and_parts address rest p3.1 in
    and_from (is_known known' a) (all_known known' bs.items && (move && (address && rest'))) (atom-more known known' a h p1.0)
    (and_from (all_known known' bs.items) (move && (address && rest')) (atoms-more known known' bs.items h p2.0)
    (and_from move (address && rest') p3.0 (and_from address rest' p4.0 (formed-more funs own tail n known known' t h p4.1))))
formed-more funs own tail n known known' (If' c a b q t r u) h e =
    let first = is_formed funs own tail n known t in
    let second = is_formed funs own tail n known u in
    let first' = is_formed funs own tail n known' t in
    let second' = is_formed funs own tail n known' u in
    let p1 = and_parts (is_known known a) (is_known known b && (first && second)) e in
    let p2 = and_parts (is_known known b) (first && second) p1.1 in
    let p3 = and_parts first second p2.1 in
    and_from (is_known known' a) (is_known known' b && (first' && second')) (atom-more known known' a h p1.0)
    (and_from (is_known known' b) (first' && second') (atom-more known known' b h p2.0)
    (and_from first' second' (formed-more funs own tail n known known' t h p3.0) (formed-more funs own tail n known known' u h p3.1)))
formed-more funs own tail n known known' (Bind' xs q t r u) h e =
    let parts = and_parts (is_formed funs own false (length xs.items) known t) (is_formed funs own tail n (xs.items ++ known) u) e in
    and_from (is_formed funs own false (length xs.items) known' t) (is_formed funs own tail n (xs.items ++ known') u) (formed-more funs own false (length xs.items) known known' t h parts.0)
    (formed-more funs own tail n (xs.items ++ known) (xs.items ++ known') u (within-behind_same xs.items known known' h) parts.1)
formed-more funs own tail n known known' (Call f bs) h e =
    let call = can_call own tail (length bs.items) n (slice_get funs f) in
    let parts = and_parts (all_known known bs.items) call e in and_from (all_known known' bs.items) call (atoms-more known known' bs.items h parts.0) parts.1
formed-more funs own tail n known known' (Raise k bs) h e =
    let rest = nat_le 1 k && nat_le (length bs.items) 8 in
    let parts = and_parts (all_known known bs.items) rest e in and_from (all_known known' bs.items) rest (atoms-more known known' bs.items h parts.0) parts.1
formed-more funs own tail n known known' (Try' q t k xs r u) h e =
    let body = is_formed funs own false n known t in
    let body' = is_formed funs own false n known' t in
    let handler = is_formed funs own tail n (xs.items ++ known) u in
    let handler' = is_formed funs own tail n (xs.items ++ known') u in
    let p1 = and_parts body (nat_le 1 k && handler) e in
    let p2 = and_parts (nat_le 1 k) handler p1.1 in
    and_from body' (nat_le 1 k && handler') (formed-more funs own false n known known' t h p1.0)
    (and_from (nat_le 1 k) handler' p2.0 (formed-more funs own tail n (xs.items ++ known) (xs.items ++ known') u (within-behind_same xs.items known known' h) p2.1))
formed-more funs own tail n known known' (Give bs) h e =
    let parts = and_parts (all_known known bs.items) (length bs.items == n) e in and_from (all_known known' bs.items) (length bs.items == n) (atoms-more known known' bs.items h parts.0) parts.1

-- ---- wide

call-if : (b : Bool) (m n k : ℕ) → m ≤ n → (if b then m + k else 0) ≤ (if b then n + k else 0)
call-if true m n k le = omega arith
call-if false m n k le = omega arith

call-more : (w : Widths) (own m n : ℕ) (o : Option FlatFun) → m ≤ n → call_wide w own m o ≤ call_wide w own n o
call-more w own m n (Some f) le = call-if (nat_lt f.group own) m n (max (w f.group) (f.results + 1)) le
call-more w own m n None le = omega arith

-- a first part, and the rest or handler after it
part-more : (funs : List FlatFun) (w : Widths) (own : ℕ) (o o' behind xs : List ℕ) (t u : Flat) → Within o o' → ((p p' : List ℕ) → Within p p' → code_wide funs w own p t ≤ code_wide funs w own p' t) → code_wide funs w own o u ≤ code_wide funs w own o' u
    → max (max (code_wide funs w own (o ++ without behind xs) t) (entry_wide (o ++ without behind xs) (length xs))) (code_wide funs w own o u) ≤ max (max (code_wide funs w own (o' ++ without behind xs) t) (entry_wide (o' ++ without behind xs) (length xs))) (code_wide funs w own o' u)
part-more funs w own o o' behind xs t u h first rest =
    let held = o ++ without behind xs in
    let held' = o' ++ without behind xs in
    let more = within-before_same o o' (without behind xs) h in
    max-mono (max (code_wide funs w own held t) (entry_wide held (length xs))) (max (code_wide funs w own held' t) (entry_wide held' (length xs))) (code_wide funs w own o u) (code_wide funs w own o' u)
    (max-mono (code_wide funs w own held t) (code_wide funs w own held' t) (entry_wide held (length xs)) (entry_wide held' (length xs)) (first held held' more) (entry-more held held' (length xs) more)) rest

pub code-more : (funs : List FlatFun) (w : Widths) (own : ℕ) (o o' : List ℕ) (t : Flat) → Within o o' → code_wide funs w own o t ≤ code_wide funs w own o' t
code-more funs w own o o' (Let' x a q t) h =
    let here = prim_vars a ++ without (live t) (x ∷ []) in
    max-mono (let_wide (o ++ here)) (let_wide (o' ++ here)) (code_wide funs w own o t) (code_wide funs w own o' t) (let-more (o ++ here) (o' ++ here) (within-before_same o o' here h)) (code-more funs w own o o' t h)
code-more funs w own o o' (Fetch' m xs a q t) h =
    let here = without (live t) xs.items in
    let there = xs.items ++ live t in
    max-mono (max (operands_wide (o ++ here) (a ∷ [])) (different (o ++ there))) (max (operands_wide (o' ++ here) (a ∷ [])) (different (o' ++ there))) (code_wide funs w own o t) (code_wide funs w own o' t)
    (max-mono (operands_wide (o ++ here) (a ∷ [])) (operands_wide (o' ++ here) (a ∷ [])) (different (o ++ there)) (different (o' ++ there)) (operands-more (o ++ here) (o' ++ here) (a ∷ []) (within-before_same o o' here h))
    (different-below (o ++ there) (o' ++ there) (within-before_same o o' there h))) (code-more funs w own o o' t h)
code-more funs w own o o' (Store' m a bs q t) h =
    max-mono (operands_wide (o ++ live t) (a ∷ bs.items)) (operands_wide (o' ++ live t) (a ∷ bs.items)) (code_wide funs w own o t) (code_wide funs w own o' t)
    (operands-more (o ++ live t) (o' ++ live t) (a ∷ bs.items) (within-before_same o o' (live t) h)) (code-more funs w own o o' t h)
code-more funs w own o o' (If' c a b q t r u) h =
    let here = live t ++ live u in
    max-mono (operands_wide (o ++ here) (a ∷ b ∷ [])) (operands_wide (o' ++ here) (a ∷ b ∷ [])) (max (code_wide funs w own o t) (code_wide funs w own o u)) (max (code_wide funs w own o' t) (code_wide funs w own o' u))
    (operands-more (o ++ here) (o' ++ here) (a ∷ b ∷ []) (within-before_same o o' here h))
    (max-mono (code_wide funs w own o t) (code_wide funs w own o' t) (code_wide funs w own o u) (code_wide funs w own o' u) (code-more funs w own o o' t h) (code-more funs w own o o' u h))
code-more funs w own o o' (Bind' xs q t r u) h = part-more funs w own o o' (live u) xs.items t u h (λ p p' le. code-more funs w own p p' t le) (code-more funs w own o o' u h)
code-more funs w own o o' (Call f bs) h =
    max-mono (operands_wide o bs.items) (operands_wide o' bs.items) (call_wide w own (different o) (slice_get funs f)) (call_wide w own (different o') (slice_get funs f)) (operands-more o o' bs.items h)
    (call-more w own (different o) (different o') (slice_get funs f) (different-below o o' h))
code-more funs w own o o' (Raise k bs) h = operands-more o o' bs.items h
code-more funs w own o o' (Try' q t k xs r u) h = part-more funs w own o o' (live u) xs.items t u h (λ p p' le. code-more funs w own p p' t le) (code-more funs w own o o' u h)
code-more funs w own o o' (Give bs) h = operands-more o o' bs.items h
