-- An object of version 2, written part by part.
use Rattle.std.proofs.Common.{◌≡◌, ℕ, List, ◌++◌, ap, ◌∙◌, append_assoc, length}
use Rattle.std.specs.Int.{to_le_bytes, w32}
use Rattle.uc_isa.specs.Code.{IsCode}
use Rattle.uc_object.specs.Rows.{IsRow}
use Rattle.uc_object.specs.Tagged.{TaggedView, IsTagged}
use Rattle.uc_object.specs.Object.{IsException, IsNumber, IsTaggedObject, header_of}
use Rattle.uc_object.specs.inner.Parts.{Adds}

pub written : (t : TaggedView) (b0 b1 b2 b3 b4 b5 f1 f2 : List ℕ) → IsCode t.code → IsTagged t
    → b0 ≡ header_of 50 t.code.params (length t.code.list) → f1 ≡ to_le_bytes w32 (length t.exceptions) → b1 ≡ b0 ++ f1 → f2 ≡ to_le_bytes w32 (length t.starts) → b2 ≡ b1 ++ f2
    → Adds IsRow t.code.list b2 b3 → Adds IsException t.exceptions b3 b4 → Adds (IsNumber (length t.code.list)) t.starts b4 b5 → IsTaggedObject b5 t
written t b0 b1 b2 b3 b4 b5 f1 f2 code tagged e0 g1 e1 g2 e2 rows named started =
    let x = to_le_bytes w32 (length t.exceptions) in
    let k = to_le_bytes w32 (length t.starts) in
    let head = header_of 50 t.code.params (length t.code.list) in
    let tail4 : b5 ≡ b3 ++ (named.0 ++ started.0) = started.1 ∙ ap (λ s. s ++ started.0) named.1 ∙ append_assoc b3 named.0 started.0 in
    let tail3 : b5 ≡ b2 ++ (rows.0 ++ (named.0 ++ started.0)) = tail4 ∙ ap (λ s. s ++ (named.0 ++ started.0)) rows.1 ∙ append_assoc b2 rows.0 (named.0 ++ started.0) in
    let tail2 : b5 ≡ b1 ++ (k ++ (rows.0 ++ (named.0 ++ started.0))) =
    tail3 ∙ ap (λ s. s ++ (rows.0 ++ (named.0 ++ started.0))) (e2 ∙ ap (λ s. b1 ++ s) g2) ∙ append_assoc b1 k (rows.0 ++ (named.0 ++ started.0)) in
    let tail1 : b5 ≡ b0 ++ (x ++ (k ++ (rows.0 ++ (named.0 ++ started.0)))) =
    tail2 ∙ ap (λ s. s ++ (k ++ (rows.0 ++ (named.0 ++ started.0)))) (e1 ∙ ap (λ s. b0 ++ s) g1) ∙ append_assoc b0 x (k ++ (rows.0 ++ (named.0 ++ started.0))) in
    record {
      code = code;
      tagged = tagged;
      rows = rows.0;
      exceptions = named.0;
      starts = started.0;
      layout = tail1 ∙ ap (λ s. s ++ (x ++ (k ++ (rows.0 ++ (named.0 ++ started.0))))) e0;
      each_row = rows.2;
      each_exception = named.2;
      each_start = started.2;
    }
