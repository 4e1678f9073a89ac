-- The listings of short code, by computing.
use Rattle.std.proofs.Common.{refl}
use Rattle.std.specs.Fmt.{digits}
use Rattle.uc_asm.specs.Worked.{SumListing, MovingListing, RaisingListing}

pub sum_listing : SumListing
unfolding digits
sum_listing = refl

pub moving_listing : MovingListing
unfolding digits
moving_listing = refl

pub raising_listing : RaisingListing
unfolding digits
raising_listing = refl
