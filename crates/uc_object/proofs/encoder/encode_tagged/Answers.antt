use Rattle.std.proofs.Common.{◌≡◌, ◌<◌, ℕ, List, length, ap, sym, ◌∙◌, subst}
use Rattle.std.specs.Int.{to_le_bytes, w32}
use Rattle.std.specs.List.{All}
use Rattle.uc_isa.specs.Code.{CodeView, IsCode}
use Rattle.uc_isa.specs.declared.instruction.Instr.{Instr}
use Rattle.uc_object.specs.Rows.{IsRow}
use Rattle.uc_object.specs.Object.{IsException, IsNumber, header_of}
use Rattle.uc_object.specs.inner.Parts.{Adds}
use Rattle.uc_object.proofs.Encoding.{written}
use Rattle.uc_object.proofs.encoder.encode_tagged.Goals as goal

pub returns : goal.returns
returns c =
    let t = c.args.tagged.now in
    let code = c.code-code.ensures in
    let list : c.list-list.result.now ≡ t.code.list = c.list-list.ensures.list ∙ ap (λ (x : CodeView). x.list) code in
    let params : c.params.result ≡ t.code.params = c.params.ensures.params ∙ ap (λ (x : CodeView). x.params) code in
    let exceptions = c.exceptions-exceptions.ensures.exceptions in
    let starts = c.starts-starts.ensures.starts in
    let tagged = c.starts-starts.ensures.tagged in
    let n = length t.code.list in
    let inside : All (λ start. start < n) c.starts-starts.result.now = subst (λ (xs : List ℕ). All (λ start. start < n) xs) (sym starts) tagged.inside in
    record {
      object = written t c.in_ok-bytes.bytes.items c.extend_from_slice.new.self.items c.extend_from_slice-2.new.self.items c.push_rows.new.out.items c.push_exceptions.new.out.items c.push_starts.new.out.items
          c.to_le_bytes.result c.to_le_bytes-2.result (subst IsCode code c.params.ensures.code) tagged
          (c.in_ok-bytes.ensures ∙ ap (λ p. header_of 50 p (length c.list-list.result.now)) params ∙ ap (λ (l : List Instr). header_of 50 t.code.params (length l)) list)
          (c.to_le_bytes.ensures ∙ ap (λ (xs : List (ℕ × List ℕ)). to_le_bytes w32 (length xs)) exceptions)
          c.in_ok-extend_from_slice.ensures.items
          (c.to_le_bytes-2.ensures ∙ ap (λ (xs : List ℕ). to_le_bytes w32 (length xs)) starts)
          c.in_ok-extend_from_slice-2.ensures.items
          (subst (λ (l : List Instr). Adds IsRow l c.extend_from_slice-2.new.self.items c.push_rows.new.out.items) list c.in_ok-push_rows.ensures)
          (subst (λ (xs : List (ℕ × List ℕ)). Adds IsException xs c.push_rows.new.out.items c.push_exceptions.new.out.items) exceptions c.in_ok-push_exceptions.ensures)
          (subst (λ (xs : List ℕ). Adds (IsNumber n) xs c.push_exceptions.new.out.items c.push_starts.new.out.items) starts (c.in_ok-push_starts.ensures n inside));
    }
