use Rattle.std.proofs.Common.{◌++◌, ◌∷◌, [], sym, ap, ◌∙◌, append_assoc, codes, decimal, rules}
use Rattle.std.specs.List.{flat_map}
use Rattle.nv_lines.specs.Number.{hex_word}
use Rattle.nv_base.specs.MemoryNames.{memory_name}
use Rattle.nv_memtext.proofs.PrintLemmas.{listed_pieces, piece_as}
use Rattle.nv_memtext.proofs.print.push_outcome.Goals as goal

pub returns-in-Ended : goal.returns-in-Ended
returns-in-Ended c =
    rw c.in-Ended.is (piece_as c.push_listed.result _ _ _ _ (ap (λ ws. codes "ended" ++ (flat_map (λ w. 32 ∷ hex_word w) ws ++ 10 ∷ [])) c.list.ensures.words ∙ listed_pieces (codes "ended") c.in-Ended.words) c.push_listed.ensures)

pub returns-in-Raised : goal.returns-in-Raised
returns-in-Raised c =
    rw c.in-Raised.is (piece_as c.push_raised.result _ _ _ _ (ap (λ ws. codes "raised " ++ (decimal c.in-Raised.number ++ (flat_map (λ w. 32 ∷ hex_word w) ws ++ 10 ∷ []))) c.list-in-Raised.ensures.words ∙ ap (λ t. codes "raised " ++ t) (listed_pieces (decimal c.in-Raised.number) c.in-Raised.words)) c.push_raised.ensures)

pub returns-in-Fault : goal.returns-in-Fault
returns-in-Fault c =
    rw c.in-Fault.is (piece_as c.push_fault.result _ _ _ _ (ap (λ t. codes "fault " ++ t) (sym (append_assoc (memory_name c.in-Fault.mem) (32 ∷ decimal c.in-Fault.at) (10 ∷ [])))) c.push_fault.ensures)

pub returns-in-Going : goal.returns-in-Going
returns-in-Going c = rw c.in-Going.is (search rules)
