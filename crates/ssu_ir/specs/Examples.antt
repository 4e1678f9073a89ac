-- Small forms, to see the definitions at work.
use Rattle.std.specs.Prelude.{List, [], ◌∷◌}
use Rattle.nv_base.specs.declared.term.Mem.TheVariants.{Sram}
use Rattle.nv_base.specs.declared.term.Bin.TheVariants.{Add}
use Rattle.nv_base.specs.declared.term.Cmp.TheVariants.{Lt}
use Rattle.ssu_ir.specs.Tree.{Lit, Bin, Clone, Read, Write, Jump, Halt, Tree, Do, If, End, Label}

-- the sum of two parameters
abbrev pub sum_of_two : List Label
sum_of_two = record { params = 0 ∷ 1 ∷ []; body = Do (Bin 2 Add 0 1) (End (Halt 0 (2 ∷ []))) } ∷ []

-- two words are read, written after and added up: each is cloned
abbrev pub copied_and_added : List Label
copied_and_added =
    record {
      params = [];
      body =
          Do (Lit 0 16)
          (Do (Read Sram (1 ∷ 2 ∷ []) 0)
          (Do (Clone (3 ∷ 4 ∷ []) 1)
          (Do (Clone (5 ∷ 6 ∷ []) 2)
          (Do (Lit 7 18)
          (Do (Write Sram 7 (3 ∷ 5 ∷ []))
          (Do (Bin 8 Add 4 6) (End (Halt 0 (8 ∷ [])))))))));
    }
    ∷ []

-- the less of two parameters by a second label, to which it goes from either arm
abbrev pub less_of_two : List Label
less_of_two =
    record {
      params = 0 ∷ 1 ∷ [];
      body =
          Do (Clone (2 ∷ 3 ∷ []) 0)
          (Do (Clone (4 ∷ 5 ∷ []) 1)
          (If Lt 2 4 (End (Jump 1 (3 ∷ []))) (End (Jump 1 (5 ∷ [])))));
    }
    ∷ record { params = 6 ∷ []; body = End (Halt 0 (6 ∷ [])) }
    ∷ []

-- one label of two parameters
abbrev pub one_label : Tree → List Label
one_label t = record { params = 0 ∷ 1 ∷ []; body = t } ∷ []
