-- The sections of the settings that need a restart to change.
use Rattle.std.specs.Prelude.{◌≡◌, Option, None, Some}
use Rattle.share_settings.specs.Settings.{SettingsView}
use Rattle.share_reload.specs.declared.section.Section.{Section}
use Rattle.share_reload.specs.declared.section.Section.TheVariants.{Uplink, Books, Control, Downlink, Web}

-- this section differs and those before it do not, or none differs
abbrev pub IsFirstChange : SettingsView → SettingsView → Option Section → Type 0
IsFirstChange old new (Some Uplink) = ¬ (old.uplink ≡ new.uplink)
IsFirstChange old new (Some Books) = (old.uplink ≡ new.uplink) × ¬ (old.books ≡ new.books)
IsFirstChange old new (Some Control) =
    (old.uplink ≡ new.uplink) × (old.books ≡ new.books) × ¬ (old.control ≡ new.control)
IsFirstChange old new (Some Downlink) =
    (old.uplink ≡ new.uplink) × (old.books ≡ new.books) × (old.control ≡ new.control)
    × ¬ (old.downlink ≡ new.downlink)
IsFirstChange old new (Some Web) =
    (old.uplink ≡ new.uplink) × (old.books ≡ new.books) × (old.control ≡ new.control)
    × (old.downlink ≡ new.downlink) × ¬ (old.web ≡ new.web)
IsFirstChange old new None =
    (old.uplink ≡ new.uplink) × (old.books ≡ new.books) × (old.control ≡ new.control)
    × (old.downlink ≡ new.downlink) × (old.web ≡ new.web)
