-- What a trace keeps of a run: its first writes.
use Rattle.std.proofs.Common.{◌≡◌, ℕ, suc, ◌+◌, ◌-◌, ◌<◌, ◌≤◌, Bool, true, false, List, [], ◌∷◌, ◌++◌, length, map, take, zero, nat_lt, refl, sym, ap, ◌∙◌, append_assoc, if◌then◌else◌, arith}
use Rattle.std.proofs.lemmas.List.{append-nil, length-append}
use Rattle.nv_base.specs.Meanings.{is_source_write, source_writes}
use Rattle.nv_meaning_values.specs.Running.{Made, plain}
use Rattle.nv_meaning_values.specs.Chains.{made_in}
use Rattle.nv_meaning_values.specs.declared.trace.Made as code
use Rattle.nv_meaning_values.specs.Notes.{Trail, no_trail, traced_all, source_made}

abbrev trail : ℕ → List Made → ℕ → Trail
trail keep kept count = record { keep = keep; kept = kept; count = count }

kept-step : (b : Bool) (keep : ℕ) (kept : List Made) (n : ℕ) (m : Made) (ms : List Made) → nat_lt (length kept) keep ≡ b → length kept ≤ keep
    → ((kept : List Made) (n : ℕ) → length kept ≤ keep → (traced_all (trail keep kept n) ms).kept ≡ kept ++ take (keep - length kept) ms)
    → (traced_all (trail keep (if b then kept ++ m ∷ [] else kept) (n + 1)) ms).kept ≡ kept ++ take (keep - length kept) (m ∷ ms)
kept-step true keep kept n m ms e le next =
    let less : length kept < keep = grind arith in
    let long : length (kept ++ m ∷ []) ≡ length kept + 1 = grind (arith, length-append) in
    let left : keep - length kept ≡ suc (keep - length (kept ++ m ∷ [])) = omega (arith, long) in
    next (kept ++ m ∷ []) (n + 1) (omega (arith, long))
    ∙ append_assoc kept (m ∷ []) (take (keep - length (kept ++ m ∷ [])) ms)
    ∙ sym (ap (λ k. kept ++ take k (m ∷ ms)) left)
kept-step false keep kept n m ms e le next =
    let most : keep ≤ length kept = grind arith in
    let none : keep - length kept ≡ 0 = omega arith in
    next kept (n + 1) le ∙ ap (λ k. kept ++ take k ms) none ∙ sym (ap (λ k. kept ++ take k (m ∷ ms)) none)

take-none : (n : ℕ) (none : List Made) → none ≡ [] → take n none ≡ []
take-none zero none e = refl
take-none (suc n) [] e = refl
take-none (suc n) (m ∷ ms) e = cc

kept-after : (keep : ℕ) (ms kept : List Made) (n : ℕ) → length kept ≤ keep → (traced_all (trail keep kept n) ms).kept ≡ kept ++ take (keep - length kept) ms
kept-after keep [] kept n le = sym (ap (λ l. kept ++ l) (take-none (keep - length kept) [] refl) ∙ append-nil kept)
kept-after keep (m ∷ ms) kept n le = kept-step (nat_lt (length kept) keep) keep kept n m ms refl le (λ kept' n' le'. kept-after keep ms kept' n' le')

pub keeps-first : (keep : ℕ) (ms : List Made) → (traced_all (no_trail keep) ms).kept ≡ take keep ms
keeps-first keep ms =
    let e : keep - 0 ≡ keep = omega arith in
    kept-after keep ms [] 0 (omega arith) ∙ ap (λ k. take k ms) e

-- the writes of a source are those without the compiler's scratch words, with and without where they are made
plain-step : (b : Bool) (m : Made) (ms : List Made) → plain (source_made ms) ≡ source_writes (plain ms)
    → plain (if b then m ∷ source_made ms else source_made ms) ≡ (if b then m.write ∷ source_writes (plain ms) else source_writes (plain ms))
plain-step true m ms e = ap (λ l. m.write ∷ l) e
plain-step false m ms e = e

pub plain-source : (ms : List Made) → plain (source_made ms) ≡ source_writes (plain ms)
plain-source [] = refl
plain-source (m ∷ ms) = plain-step (is_source_write m.write.mem m.write.at) m ms (plain-source ms)

-- the writes that a trace keeps, with and without the names of the chains
pub plain-kept : (chains : List (List (List ℕ))) (ms : List code.Made) → plain (map (made_in chains) ms) ≡ map (λ m. m.write) ms
plain-kept chains [] = refl
plain-kept chains (m ∷ ms) = ap (λ l. m.write ∷ l) (plain-kept chains ms)
