-- What an application is told where a table of its endpoint refuses.
use Rattle.am_office_entries.specs.declared.Refusal.{Refusal}
use Rattle.am_office_entries.specs.declared.Refusal.TheVariants as No
use Rattle.am_translate.specs.declared.MapFault.{MapFault}
use Rattle.am_translate.specs.declared.MapFault.TheVariants as MapFaults
use Rattle.am_translate.specs.declared.UnmapFault.{UnmapFault}
use Rattle.am_translate.specs.declared.UnmapFault.TheVariants as UnmapFaults
use Rattle.am_translate.specs.declared.CreditFault.{CreditFault}
use Rattle.am_translate.specs.declared.CreditFault.TheVariants as CreditFaults

abbrev pub of_map : MapFault → Refusal
of_map MapFaults.BadIndex = No.BadIndex
of_map MapFaults.InUse = No.InUse
of_map (MapFaults.OverShare sum) = No.OverShare sum

abbrev pub of_unmap : UnmapFault → Refusal
of_unmap UnmapFaults.BadIndex = No.BadIndex
of_unmap UnmapFaults.NotMapped = No.NotMapped
of_unmap (UnmapFaults.Outstanding count) = No.Outstanding count

abbrev pub of_credit : CreditFault → Refusal
of_credit CreditFaults.BadIndex = No.BadIndex
of_credit CreditFaults.NotMapped = No.NotMapped
of_credit CreditFaults.NoCredit = No.NoCredit
of_credit CreditFaults.TableFull = No.TableFull
