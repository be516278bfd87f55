-- The settings that the bytes of a file say.
use Rattle.std.specs.Prelude.{◌≡◌, ℕ, List, None, Some, Ok, IsUtf8, option_map}
use Rattle.toml.specs.Parse.{parse_document}
use Rattle.share_gateway.specs.Opened.{first_refused}
use Rattle.share_settings.specs.Settings.{SettingsView}
use Rattle.share_config.specs.Files.{settings_of, IsFault}
use Rattle.share_config.specs.declared.fault.ConfigFault.TheVariants.{NoMemory}
use Rattle.share_check.specs.Checks.{IsUnsound}
use Rattle.share_loading.specs.declared.refused.Refused.{Refused}
use Rattle.share_loading.specs.declared.refused.Refused.TheVariants.{NotRead, NotText, Config, Plan}

-- no entry of the plan is refused
abbrev pub IsSound : SettingsView → Type 0
IsSound s = first_refused s.tariffs s.plan ≡ None

-- the bytes are a text that says these settings
pub record IsSaid (bytes : List ℕ) (s : SettingsView) : Type 0 where
  pub text : IsUtf8 bytes
  pub said : option_map settings_of (parse_document bytes) ≡ Some (Ok s)

-- the plan cannot be opened
abbrev pub IsCheckFault : SettingsView → Refused → Type 0
IsCheckFault s (NotRead e) = ⊥
IsCheckFault s NotText = ⊥
IsCheckFault s (Config e) = ⊥
IsCheckFault s (Plan e) = IsUnsound s.tariffs s.plan s.books.events e

-- the first fault of a file's bytes
abbrev pub IsRefused : List ℕ → Refused → Type 0
IsRefused bytes (NotRead e) = ⊥
IsRefused bytes NotText = ¬ (IsUtf8 bytes)
IsRefused bytes (Config e) = IsUtf8 bytes × (¬ (e ≡ NoMemory) → IsFault (parse_document bytes) e)
IsRefused bytes (Plan e) = (s : SettingsView) × IsSaid bytes s × IsCheckFault s (Plan e)
