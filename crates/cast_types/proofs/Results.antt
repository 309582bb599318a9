-- Results of calls.
use Rattle.std.specs.Prelude.{Result, Ok, Err, OnOk, OnErr}

-- what holds with either result holds
pub either_way : {X E P : Type 0} (r : Result X E) → OnOk r P → OnErr r P → P
either_way (Ok x) ok err = ok
either_way (Err y) ok err = err
