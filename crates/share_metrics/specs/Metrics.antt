-- The text of the metrics of a status.
use Rattle.std.specs.Prelude.{ℕ, List, [], ◌++◌, Bool, Option, None, Some, codes, decimal, flat_map}
use Rattle.std.specs.Prelude.{if◌then◌else◌}
use Rattle.share_status.specs.declared.status.Status.{Status}
use Rattle.share_status.specs.declared.status.TenantStatus.{TenantStatus}
use Rattle.share_metrics.specs.Families.{gateway_families, gateway_help, gateway_name, gateway_value}
use Rattle.share_metrics.specs.Families.{is_gateway_counter, is_tenant_counter, tenant_families, tenant_help}
use Rattle.share_metrics.specs.Families.{tenant_name, tenant_value}
use Rattle.share_web.specs.Parts.{three}
use Rattle.share_metrics.specs.declared.family.GatewayFamily.{GatewayFamily}
use Rattle.share_metrics.specs.declared.family.TenantFamily.{TenantFamily}
use Rattle.share_web.specs.declared.target.Exposition.{Exposition}
use Rattle.share_web.specs.declared.target.Exposition.TheVariants.{Plain, OpenMetrics}

-- a number and a line feed
unfoldable pub number_line : ℕ → List ℕ
number_line n = decimal n ++ codes "\n"

-- ---- The parts of a family

-- a counter's samples have a longer name
abbrev pub sample_suffix : Bool → List ℕ
sample_suffix is_counter = if is_counter then codes "_total" else []

-- and so have its first lines, but for OpenMetrics
abbrev pub family_suffix : Exposition → Bool → List ℕ
family_suffix Plain is_counter = sample_suffix is_counter
family_suffix OpenMetrics is_counter = []

abbrev pub kind_of : Bool → List ℕ
kind_of is_counter = if is_counter then codes " counter\n" else codes " gauge\n"

unfoldable pub family_head : Exposition → List ℕ → List ℕ → Bool → List ℕ
family_head e name help is_counter =
    three (codes "# HELP ") name (family_suffix e is_counter)
    ++ three (codes " ") help (codes "\n")
    ++ three (codes "# TYPE ") name (family_suffix e is_counter)
    ++ kind_of is_counter

-- ---- Families that have at most one value

abbrev pub gateway_sample : GatewayFamily → ℕ → List ℕ
gateway_sample f n =
    three (gateway_name f) (sample_suffix (is_gateway_counter f)) (codes " ") ++ number_line n

abbrev pub valued : Exposition → GatewayFamily → Option ℕ → List ℕ
valued e f None = []
valued e f (Some n) =
    family_head e (gateway_name f) (gateway_help f) (is_gateway_counter f) ++ gateway_sample f n

unfoldable pub gateway_family : Exposition → Status → GatewayFamily → List ℕ
gateway_family e s f = valued e f (gateway_value f s)

abbrev pub gateway_text : Exposition → Status → List ℕ
gateway_text e s = flat_map (gateway_family e s) gateway_families

-- ---- Families that have a value for each tenant

unfoldable pub tenant_sample : TenantFamily → TenantStatus → List ℕ
tenant_sample f t =
    three (tenant_name f) (sample_suffix (is_tenant_counter f)) (codes "{tenant=\"")
    ++ three t.name (codes "\"}") (codes " ")
    ++ number_line (tenant_value f t)

abbrev pub samples_text : TenantFamily → List TenantStatus → List ℕ
samples_text f tenants = flat_map (tenant_sample f) tenants

unfoldable pub tenant_family : Exposition → List TenantStatus → TenantFamily → List ℕ
tenant_family e tenants f =
    family_head e (tenant_name f) (tenant_help f) (is_tenant_counter f) ++ samples_text f tenants

abbrev pub tenants_text : Exposition → List TenantStatus → List ℕ
tenants_text e tenants = flat_map (tenant_family e tenants) tenant_families

-- ---- All of it

-- the last line of OpenMetrics
abbrev pub closing : Exposition → List ℕ
closing Plain = []
closing OpenMetrics = codes "# EOF\n"

abbrev pub metrics_text : Exposition → Status → List ℕ
metrics_text e s = gateway_text e s ++ tenants_text e s.tenants.now ++ closing e
