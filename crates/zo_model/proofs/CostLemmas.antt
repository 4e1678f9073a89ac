-- the lines of columns, read one by one
use Rattle.std.proofs.Common.{◌≡◌, ℕ, ◌+◌, ◌*◌, ◌^◌, ◌<◌, List, [], ◌∷◌, ◌++◌, length, map, sym, ap, ◌∙◌, arith}
use Rattle.std.specs.List.{All}
use Rattle.std.proofs.lemmas.List.{length-append, map-append}
use Rattle.std.proofs.lemmas.List.Elements.{All-push}
use Rattle.nv_lines.specs.Line.{text_of}
use Rattle.nv_lines.proofs.SplitLaws.{text_of-push}
use Rattle.zo_model.specs.Contents.{RowContents}
use Rattle.zo_model.specs.ProgramText.{cost_line, row_line, IsRowText}

-- N columns were read
pub record HasCosts (bytes rest costs : List ℕ) (first number : ℕ) : Type 0 where
  pub fit : All (λ c. c < 2 ^ 20) costs
  pub spelled : bytes ≡ text_of (map cost_line costs) ++ rest
  pub counted : number ≡ first + length costs
  pub room : 2 * number + length rest < 2 ^ 32

pub one_cost_more : (bytes rest rest' costs line : List ℕ) (first number c : ℕ) → HasCosts bytes rest costs first number → rest ≡ line ++ 10 ∷ rest' → line ≡ cost_line c → c < 2 ^ 20 → HasCosts bytes rest' (costs ++ c ∷ []) first (number + 1)
one_cost_more bytes rest rest' costs line first number c h e f small =
    let some : 0 < length (cost_line c) = omega arith in
    record {
      fit = All-push (λ c. c < 2 ^ 20) costs c h.fit small;
      spelled = h.spelled ∙ (ap (λ r. text_of (map cost_line costs) ++ r) (e ∙ ap (λ l. l ++ 10 ∷ rest') f)
          ∙ (sym (text_of-push (map cost_line costs) (cost_line c) rest') ∙ ap (λ ls. text_of ls ++ rest') (sym (map-append cost_line costs (c ∷ [])))));
      counted = omega (arith, h.counted, length-append costs (c ∷ []));
      room = omega (arith, h.room, ap length e, ap length f, length-append line (10 ∷ rest'), some);
    }

-- N rows were read
pub record HasRows (n : ℕ) (bytes rest : List ℕ) (rows : List RowContents) (first number : ℕ) : Type 0 where
  pub fit : All (IsRowText n) rows
  pub spelled : bytes ≡ text_of (map row_line rows) ++ rest
  pub counted : number ≡ first + length rows
  pub room : 2 * number + length rest < 2 ^ 32

pub one_row_more : (n : ℕ) (bytes rest rest' : List ℕ) (rows : List RowContents) (line : List ℕ) (first number : ℕ) (r : RowContents) → HasRows n bytes rest rows first number → rest ≡ line ++ 10 ∷ rest' → line ≡ row_line r → IsRowText n r → HasRows n bytes rest' (rows ++ r ∷ []) first (number + 1)
one_row_more n bytes rest rest' rows line first number r h e f fits =
    let some : 0 < length (row_line r) = omega arith in
    record {
      fit = All-push (IsRowText n) rows r h.fit fits;
      spelled = h.spelled ∙ (ap (λ x. text_of (map row_line rows) ++ x) (e ∙ ap (λ l. l ++ 10 ∷ rest') f)
          ∙ (sym (text_of-push (map row_line rows) (row_line r) rest') ∙ ap (λ ls. text_of ls ++ rest') (sym (map-append row_line rows (r ∷ [])))));
      counted = omega (arith, h.counted, length-append rows (r ∷ []));
      room = omega (arith, h.room, ap length e, ap length f, length-append line (10 ∷ rest'), some);
    }
