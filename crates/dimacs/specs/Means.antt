-- What the answer of writing the file means (document 01, demand 3). Assumes nothing.
use Rattle.std.specs.Prelude.{◌≡◌, ℕ, Ok, Err}
use Rattle.request.specs.declared.Request.{Request}
use Rattle.encoding.specs.Encoding.{FileMeans, encoding}
use Rattle.dimacs.specs.File.{Answer, write_number}

-- what a length says of the file besides: its formula is satisfiable exactly when some network of r switches does the job
abbrev pub Meaning : Request → Answer → Type 0
Meaning q (Ok k) = FileMeans q
Meaning q (Err x) = Unit {0}

-- every answer means it
pub answer_means : (q : Request) (x : Answer) → Meaning q x
answer_means q (Ok k) = encoding q
answer_means q (Err x) = tt

-- so does the number 0
pub number_means : (q : Request) (room : ℕ) → write_number q room ≡ 0 → FileMeans q
number_means q room e = encoding q
