-- A head and what was read behind it.
use Rattle.std.proofs.Common.{◌≡◌, ℕ, ◌<◌, ◌≤◌, List, ◌++◌, length, Option, Some, refl, sym, ap, ◌∙◌, subst, arith}
use Rattle.std.specs.Io.KnownBytes.{IsAtEnd}
use Rattle.nova_lsp.specs.Heads.{IsHead}
use Rattle.nova_lsp.specs.HeadLines.{IsHeadless}
use Rattle.nova_lsp.specs.Reading.{IsMessage, IsCut, IsRead, IsContent, longest}
use Rattle.nova_lsp.specs.declared.frame.Incoming.{Incoming}
use Rattle.nova_lsp.specs.declared.frame.Incoming.TheVariants as incoming
use Rattle.nova_lsp.specs.declared.input.Short.TheVariants as shorts
use Rattle.nova_lsp.proofs.HeadLaws.{one_head}

message : (head content : List ℕ) (n : ℕ) → IsHead head (Some n) → length content ≡ n → IsMessage (head ++ content) content
message head content n h e = record { head = head; told = subst (λ k. IsHead head (Some k)) (sym e) h; spelled = refl }

cut : (head front : List ℕ) (n : ℕ) → IsHead head (Some n) → length front < n → IsCut (head ++ front)
cut head front n h short other rest told k e =
    let r = one_head head other front rest (Some n) told h k e in
    let same : length front ≡ length rest = ap length r.1 in
    (n, sym r.0, omega (arith, same, short))

pub with_head : (head front : List ℕ) (n : ℕ) (r : Incoming) → IsHead head (Some n) → IsContent n front r → IsRead (head ++ front) r
with_head head front n (incoming.Content content) h is =
    let told : length front ≡ n = is.1 in
    let fits : n ≤ longest = is.2 in
    let long : length content.items ≤ longest = subst (λ k. k ≤ longest) (sym (ap length is.0 ∙ told)) fits in
    let whole : IsMessage (head ++ front) front = message head front n h told in
    (subst (λ c. IsMessage (head ++ front) c) (sym is.0) whole, long)
with_head head front n incoming.NoLength h is = absurd is
with_head head front n incoming.TooLong h is = (front, message head front n h is.0, subst (λ k. longest < k) (sym is.0) is.1)
with_head head front n incoming.NoMemory h is = (front, message head front n h is.0, subst (λ k. k ≤ longest) (sym is.0) is.1)
with_head head front n incoming.End h is = cut head front n h is
with_head head front n incoming.Failed h is = tt

-- no head at all
pub no_message : (bytes : List ℕ) (left : Option (List ℕ)) → IsHeadless bytes left shorts.End → IsCut bytes × IsAtEnd left
no_message bytes left h = ((λ head rest told is e. absurd (h.0 head rest told is e)), h.1)
