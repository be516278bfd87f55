-- Why settings are not taken while a gateway runs.
use Rattle.std.specs.Prelude.{◌≡◌, List, Option, None, Some}
use Rattle.share_settings.specs.Settings.{SettingsView}
use Rattle.share_reload.specs.declared.clash.Numbered.{Numbered}
use Rattle.share_reload.specs.declared.fault.ReloadFault.{ReloadFault}
use Rattle.share_reload.specs.declared.fault.ReloadFault.TheVariants.{Section, Clash}
use Rattle.share_reload.specs.Sections.{IsFirstChange}
use Rattle.share_reload.specs.Rosters.{tenants_of, first_clash}

-- the first section that differs; or none differs, and this is the first clash; or there is neither
abbrev pub IsReloadFault : SettingsView → SettingsView → List Numbered → Option ReloadFault → Type 0
IsReloadFault old new known (Some (Section s)) = IsFirstChange old new (Some s)
IsReloadFault old new known (Some (Clash c)) =
    IsFirstChange old new None × (first_clash known (tenants_of new.plan) ≡ Some c)
IsReloadFault old new known None =
    IsFirstChange old new None × (first_clash known (tenants_of new.plan) ≡ None)
