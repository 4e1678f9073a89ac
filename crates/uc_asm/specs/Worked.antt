-- The listings of short code, and of a short object.
use Rattle.std.specs.Prelude.{◌≡◌, [], ◌∷◌, codes}
use Rattle.nv_lines.specs.Line.{text_of}
use Rattle.uc_isa.specs.Worked.{sum_code, moving_code}
use Rattle.uc_object.specs.Worked.{raising}
use Rattle.uc_asm.specs.Starts.{tagged_listing}
use Rattle.uc_asm.specs.Text.{listing}

abbrev pub SumListing : Type 0
SumListing = listing sum_code ≡ text_of (
    codes "params 2"
    ∷ codes "un B0 COPY A1"
    ∷ codes "alu A0 ADD A0 B0"
    ∷ codes "halt 0 1"
    ∷ [])

abbrev pub MovingListing : Type 0
MovingListing = listing (record { params = 4; list = moving_code }) ≡ text_of (
    codes "params 4"
    ∷ codes "un A15 COPY A0"
    ∷ codes "un B0 COPY A1"
    ∷ codes "un S0 COPY A2"
    ∷ codes "write scratch 0 1 B15 3"
    ∷ codes "read scratch 0 1 B15 3"
    ∷ codes "un A1 COPY L0"
    ∷ codes "un A2 COPY A3"
    ∷ codes "halt 0 2"
    ∷ [])

abbrev pub RaisingListing : Type 0
RaisingListing = tagged_listing raising ≡ text_of (
    codes "params 0"
    ∷ codes "L0:"
    ∷ codes "halt 1 0"
    ∷ [])
