-- Live variables: what code does depends on their words alone, and in formed code they are known.
use Rattle.std.proofs.Common.{◌≡◌, ℕ, Bool, true, false, nat_le, ◌&&◌, List, [], ◌∷◌, ◌++◌, refl, ap, ◌∙◌, length}
use Rattle.std.proofs.lemmas.Bool.{and_parts, and_from}
use Rattle.nv_base.specs.Words.{Env, assigned, assigned_all, atom_word, atom_words, prim_word, atom_vars, prim_vars}
use Rattle.nv_base.proofs.Operands.{atom-known, atoms-known, prim-known, atom-same, atoms-same, prim-same}
use Rattle.flat_ir.specs.declared.flat.Flat.{Flat}
use Rattle.flat_ir.specs.declared.flat.Flat.TheVariants.{Let', Fetch', Store', If', Bind', Call, Raise, Try', Give}
use Rattle.flat_ir.specs.declared.flat.FlatFun.{FlatFun}
use Rattle.nv_base.specs.Running.{Running}
use Rattle.flat_ir.specs.Running.{Gives, Raises}
use Rattle.flat_ir.specs.Meaning.{Calls, does}
use Rattle.nv_base.specs.Sets.{AgreeOn, without, all_vars, Within}
use Rattle.nv_base.specs.Access.{is_known, all_known, is_primitive, can_move, is_address}
use Rattle.flat_ir.specs.Formed.{is_formed}
use Rattle.flat_ir.specs.Wide.{live}
use Rattle.nv_base.proofs.Sets.{within-both, within-without, agree-left, agree-right, agree-behind, agree-within}
use Rattle.flat_ir.proofs.Agreement.{then-same, handled-same, fetch-same, store-same, compared}

-- ---- what code does

pub does-live : (call : Calls) (t : Flat) (env env' : Env) (now : Running) → AgreeOn (live t) env env' → does call t env now ≡ does call t env' now
does-live call (Let' x a q t) env env' now h =
    let same : prim_word env a ≡ prim_word env' a = prim-same env env' a (agree-left (prim_vars a) (without (live t) (x ∷ [])) env env' h) in
    does-live call t (assigned env x (prim_word env a)) (assigned env' x (prim_word env a)) now (agree-behind (live t) (x ∷ []) (prim_word env a ∷ []) env env' (agree-right (prim_vars a) (without (live t) (x ∷ [])) env env' h))
    ∙ ap (λ w. does call t (assigned env' x w) now) same
does-live call (Fetch' m xs a q t) env env' now h =
    fetch-same m (length xs.items) (atom_word env a) (atom_word env' a) now (λ ws. does call t (assigned_all env xs.items ws) now) (λ ws. does call t (assigned_all env' xs.items ws) now)
    (atom-same env env' a (agree-left (atom_vars a) (without (live t) xs.items) env env' h))
    (λ ws. does-live call t (assigned_all env xs.items ws) (assigned_all env' xs.items ws) now (agree-behind (live t) xs.items ws env env' (agree-right (atom_vars a) (without (live t) xs.items) env env' h)))
does-live call (Store' m a bs q t) env env' now h =
    let front = agree-left (all_vars (a ∷ bs.items)) (live t) env env' h in
    store-same m (atom_word env a) (atom_word env' a) (atom_words env bs.items) (atom_words env' bs.items) now (λ next. does call t env next) (λ next. does call t env' next)
    (atom-same env env' a (agree-left (atom_vars a) (all_vars bs.items) env env' front)) (atoms-same env env' bs.items (agree-right (atom_vars a) (all_vars bs.items) env env' front))
    (λ next. does-live call t env env' next (agree-right (all_vars (a ∷ bs.items)) (live t) env env' h))
does-live call (If' c a b q t r u) env env' now h =
    let front = agree-left (all_vars (a ∷ b ∷ [])) (live t ++ live u) env env' h in
    let arms = agree-right (all_vars (a ∷ b ∷ [])) (live t ++ live u) env env' h in
    compared c (atom_word env a) (atom_word env' a) (atom_word env b) (atom_word env' b) (does call t env now) (does call u env now) (does call t env' now) (does call u env' now)
    (atom-same env env' a (agree-left (atom_vars a) (all_vars (b ∷ [])) env env' front)) (atom-same env env' b (agree-left (atom_vars b) [] env env' (agree-right (atom_vars a) (all_vars (b ∷ [])) env env' front)))
    (does-live call t env env' now (agree-left (live t) (live u) env env' arms)) (does-live call u env env' now (agree-right (live t) (live u) env env' arms))
does-live call (Bind' xs q t r u) env env' now h =
    then-same (does call t env now) (does call t env' now) (λ ws next. does call u (assigned_all env xs.items ws) next) (λ ws next. does call u (assigned_all env' xs.items ws) next)
    (does-live call t env env' now (agree-left (live t) (without (live u) xs.items) env env' h))
    (λ ws next. does-live call u (assigned_all env xs.items ws) (assigned_all env' xs.items ws) next (agree-behind (live u) xs.items ws env env' (agree-right (live t) (without (live u) xs.items) env env' h)))
does-live call (Call f bs) env env' now h = ap (λ ws. call f ws now) (atoms-same env env' bs.items h)
does-live call (Raise k bs) env env' now h = ap (λ ws. Raises k ws now) (atoms-same env env' bs.items h)
does-live call (Try' q t k xs r u) env env' now h =
    handled-same k (λ ws next. does call u (assigned_all env xs.items ws) next) (λ ws next. does call u (assigned_all env' xs.items ws) next) (does call t env now) (does call t env' now)
    (does-live call t env env' now (agree-left (live t) (without (live u) xs.items) env env' h))
    (λ ws next. does-live call u (assigned_all env xs.items ws) (assigned_all env' xs.items ws) next (agree-behind (live u) xs.items ws env env' (agree-right (live t) (without (live u) xs.items) env env' h)))
does-live call (Give bs) env env' now h = ap (λ ws. Gives ws now) (atoms-same env env' bs.items h)

-- ---- formed code

pub formed-live : (funs : List FlatFun) (own : ℕ) (tail : Bool) (n : ℕ) (known : List ℕ) (t : Flat) → is_formed funs own tail n known t ≡ true → Within (live t) known
formed-live funs own tail n known (Let' x a q t) e =
    let parts = and_parts (is_primitive known a) (is_formed funs own tail n (x ∷ known) t) e in
    within-both (prim_vars a) (without (live t) (x ∷ [])) known (prim-known known a parts.0) (within-without (live t) (x ∷ []) known (formed-live funs own tail n (x ∷ known) t parts.1))
formed-live funs own tail n known (Fetch' m xs a q t) e =
    let p1 = and_parts (is_known known a) _ e in
    let p2 = and_parts (can_move m (length xs.items)) _ p1.1 in
    let p3 = and_parts (is_address m a (length xs.items)) _ p2.1 in
    within-both (atom_vars a) (without (live t) xs.items) known (atom-known known a p1.0) (within-without (live t) xs.items known (formed-live funs own tail n (xs.items ++ known) t p3.1))
formed-live funs own tail n known (Store' m a bs q t) e =
    let p1 = and_parts (is_known known a) _ e in
    let p2 = and_parts (all_known known bs.items) _ p1.1 in
    let p3 = and_parts (can_move m (length bs.items)) _ p2.1 in
    let p4 = and_parts (is_address m a (length bs.items)) _ p3.1 in
    within-both (all_vars (a ∷ bs.items)) (live t) known (within-both (atom_vars a) (all_vars bs.items) known (atom-known known a p1.0) (atoms-known known bs.items p2.0)) (formed-live funs own tail n known t p4.1)
formed-live funs own tail n known (If' c a b q t r u) e =
    let p1 = and_parts (is_known known a) (is_known known b && (is_formed funs own tail n known t && is_formed funs own tail n known u)) e in
    let p2 = and_parts (is_known known b) (is_formed funs own tail n known t && is_formed funs own tail n known u) p1.1 in
    let p3 = and_parts (is_formed funs own tail n known t) (is_formed funs own tail n known u) p2.1 in
    within-both (all_vars (a ∷ b ∷ [])) (live t ++ live u) known (atoms-known known (a ∷ b ∷ []) (and_from (is_known known a) (is_known known b && true) p1.0 (and_from (is_known known b) true p2.0 refl)))
    (within-both (live t) (live u) known (formed-live funs own tail n known t p3.0) (formed-live funs own tail n known u p3.1))
formed-live funs own tail n known (Bind' xs q t r u) e =
    let parts = and_parts (is_formed funs own false (length xs.items) known t) (is_formed funs own tail n (xs.items ++ known) u) e in
    within-both (live t) (without (live u) xs.items) known (formed-live funs own false (length xs.items) known t parts.0) (within-without (live u) xs.items known (formed-live funs own tail n (xs.items ++ known) u parts.1))
formed-live funs own tail n known (Call f bs) e = atoms-known known bs.items (and_parts (all_known known bs.items) _ e).0
formed-live funs own tail n known (Raise k bs) e = atoms-known known bs.items (and_parts (all_known known bs.items) _ e).0
formed-live funs own tail n known (Try' q t k xs r u) e =
    let p1 = and_parts (is_formed funs own false n known t) _ e in
    let p2 = and_parts (nat_le 1 k) (is_formed funs own tail n (xs.items ++ known) u) p1.1 in
    within-both (live t) (without (live u) xs.items) known (formed-live funs own false n known t p1.0) (within-without (live u) xs.items known (formed-live funs own tail n (xs.items ++ known) u p2.1))
formed-live funs own tail n known (Give bs) e = atoms-known known bs.items (and_parts (all_known known bs.items) _ e).0

-- so what it does depends on the words of known variables alone
pub does-known : (call : Calls) (funs : List FlatFun) (own : ℕ) (tail : Bool) (n : ℕ) (known : List ℕ) (t : Flat) (env env' : Env) (now : Running) → is_formed funs own tail n known t ≡ true → AgreeOn known env env'
    → does call t env now ≡ does call t env' now
does-known call funs own tail n known t env env' now e h = does-live call t env env' now (agree-within (live t) known env env' (formed-live funs own tail n known t e) h)
