-- Why a text is no file of this kind.
use Rattle.std.specs.Prelude.{◌≡◌, List, ℕ, None, IsUtf8}
use Rattle.toml.specs.Parse.{parse_document}
use Rattle.peer_config.specs.declared.fault.NoConfig.{NoConfig}
use Rattle.peer_config.specs.declared.fault.NoConfig.TheVariants as refused

-- a text whose form is refused is no document of TOML; where memory was refused nothing is known of it
abbrev pub IsRefused : List ℕ → NoConfig → Type 0
IsRefused text (refused.Form line e) = IsUtf8 text → parse_document text ≡ None
IsRefused text refused.Memory = Unit {0}
