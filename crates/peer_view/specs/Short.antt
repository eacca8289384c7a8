-- What a view holds itself.
use Rattle.std.specs.Prelude.{ℕ}

-- the most bytes that a view holds itself
abbrev pub SHORT : ℕ
SHORT = 46
