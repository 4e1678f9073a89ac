-- What a log holds after many writes.
use Rattle.std.proofs.Common.{◌≡◌, ℕ, zero, suc, ◌+◌, ◌-◌, ◌≤◌, ◌<◌, List, [], ◌∷◌, ◌++◌, Bool, true, false, cond, length, take, nat_lt, refl, sym, ap, ◌∙◌, append_assoc, arith}
use Rattle.std.proofs.lemmas.List.{append-nil, length-append}
use Rattle.std.proofs.lemmas.List.Elements.{filter-append}
use Rattle.nv_base.specs.declared.outcome.Write.{Write}
use Rattle.nv_base.specs.Meanings.{source_writes, is_source_write}
use Rattle.nv_base.specs.Log.{Log, empty_log, noted, noted_all}

abbrev log_of : ℕ → List Write → ℕ → Log
log_of keep kept count = record { keep = keep; kept = kept; count = count }

take-none : (n : ℕ) (none : List Write) → none ≡ [] → take n none ≡ []
take-none zero none e = refl
take-none (suc n) [] e = refl
take-none (suc n) (w ∷ ws) e = cc

kept-step : (b : Bool) (keep : ℕ) (kept : List Write) (n : ℕ) (w : Write) (ws : List Write) → nat_lt (length kept) keep ≡ b → length kept ≤ keep
    → ((kept : List Write) (n : ℕ) → length kept ≤ keep → (noted_all (log_of keep kept n) ws).kept ≡ kept ++ take (keep - length kept) ws)
    → (noted_all (log_of keep (cond b (kept ++ w ∷ []) kept) (n + 1)) ws).kept ≡ kept ++ take (keep - length kept) (w ∷ ws)
kept-step true keep kept n w ws e le next =
    let less : length kept < keep = grind arith in
    let long : length (kept ++ w ∷ []) ≡ length kept + 1 = grind (arith, length-append) in
    let left : keep - length kept ≡ suc (keep - length (kept ++ w ∷ [])) = omega (arith, long) in
    next (kept ++ w ∷ []) (n + 1) (omega (arith, long))
    ∙ append_assoc kept (w ∷ []) (take (keep - length (kept ++ w ∷ [])) ws)
    ∙ sym (ap (λ k. kept ++ take k (w ∷ ws)) left)
kept-step false keep kept n w ws e le next =
    let most : keep ≤ length kept = grind arith in
    let none : keep - length kept ≡ 0 = omega arith in
    next kept (n + 1) le ∙ ap (λ k. kept ++ take k ws) none ∙ sym (ap (λ k. kept ++ take k (w ∷ ws)) none)

-- the writes that were kept, and then as many as there is room for
pub kept_after : (keep : ℕ) (ws kept : List Write) (n : ℕ) → length kept ≤ keep → (noted_all (log_of keep kept n) ws).kept ≡ kept ++ take (keep - length kept) ws
kept_after keep [] kept n le = sym (ap (λ l. kept ++ l) (take-none (keep - length kept) [] refl) ∙ append-nil kept)
kept_after keep (w ∷ ws) kept n le = kept-step (nat_lt (length kept) keep) keep kept n w ws refl le (λ kept' n' le'. kept_after keep ws kept' n' le')

pub keeps_first : (keep : ℕ) (ws : List Write) → (noted_all (empty_log keep) ws).kept ≡ take keep ws
keeps_first keep ws =
    let e : keep - 0 ≡ keep = omega arith in
    kept_after keep ws [] 0 (omega arith) ∙ ap (λ k. take k ws) e

-- the number of writes, on top of those before
pub count_after : (ws : List Write) (log : Log) → (noted_all log ws).count ≡ log.count + length ws
count_after [] log = omega arith
count_after (w ∷ ws) log =
    let e : log.count + 1 + length ws ≡ log.count + length (w ∷ ws) = omega arith in
    count_after ws (noted log w) ∙ e

pub counts_all : (keep : ℕ) (ws : List Write) → (noted_all (empty_log keep) ws).count ≡ length ws
counts_all keep ws = let e : 0 + length ws ≡ length ws = omega arith in count_after ws (empty_log keep) ∙ e

-- the writes so far, and then these
pub noted-append : (ws vs : List Write) (log : Log) → noted_all log (ws ++ vs) ≡ noted_all (noted_all log ws) vs
noted-append [] vs log = refl
noted-append (w ∷ ws) vs log = noted-append ws vs (noted log w)

-- how many a log keeps does not change
pub keep_after : (ws : List Write) (log : Log) → (noted_all log ws).keep ≡ log.keep
keep_after [] log = refl
keep_after (w ∷ ws) log = keep_after ws (noted log w)

-- ---- the writes of a source

-- one write more
pub noted-one : (log log0 : Log) (ws : List Write) (w : Write) → log ≡ noted_all log0 (source_writes ws) → noted_all log (source_writes (w ∷ [])) ≡ noted_all log0 (source_writes (ws ++ w ∷ []))
noted-one log log0 ws w h =
    ap (λ l. noted_all l (source_writes (w ∷ []))) h
    ∙ sym (noted-append (source_writes ws) (source_writes (w ∷ [])) log0)
    ∙ ap (noted_all log0) (sym (filter-append (λ w. is_source_write w.mem w.at) ws (w ∷ [])))

noted-count-at : (b : Bool) (log : Log) (w : Write) → is_source_write w.mem w.at ≡ b → (noted_all log (cond b (w ∷ []) [])).count ≤ log.count + 1
noted-count-at true log w e = omega arith
noted-count-at false log w e = omega arith

pub noted-count : (log : Log) (w : Write) → (noted_all log (source_writes (w ∷ []))).count ≤ log.count + 1
noted-count log w = noted-count-at (is_source_write w.mem w.at) log w refl
