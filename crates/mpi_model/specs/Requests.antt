-- Numbers of requests (MPI 4.0, 3.7).
use Rattle.std.specs.Prelude.{ℤ, negsuc}

-- the number of `MPI_REQUEST_NULL`, -2^63: it is never an operation's (MPI 4.0, 3.7.3)
abbrev pub null_request : ℤ
null_request = negsuc 9223372036854775807
