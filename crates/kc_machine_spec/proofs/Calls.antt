-- What is so where a call has failed, or has not.
use Rattle.std.specs.Prelude.{Result, Ok, Err, OnOk, OnErr}

-- what follows where a call has failed
pub on-fault : {A E : Type 0} {P Q : Type 0} (r : Result A E) → OnErr r P → (P → Q) → OnErr r Q
on-fault (Ok a) p h = tt
on-fault (Err e) p h = h p

-- what is so in any case is so where a call has failed
pub always-failed : {A E : Type 0} {P : Type 0} (r : Result A E) → P → OnErr r P
always-failed (Ok a) p = tt
always-failed (Err e) p = p

-- what is so in any case is so where a call is Ok
pub always : {A E : Type 0} {P : Type 0} (r : Result A E) → P → OnOk r P
always (Ok a) p = p
always (Err e) p = tt
