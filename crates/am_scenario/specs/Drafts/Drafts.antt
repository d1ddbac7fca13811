-- What the reader keeps stands for.
use Rattle.am_scenario.specs.declared.drafts.draft.Draft.{Draft}
use Rattle.am_scenario.specs.Drafts.Said.{Said}

abbrev pub said : Draft → Said
said d = record {
  section = d.section;
  version = d.version;
  settings = d.settings;
  ends = d.ends.items;
  bundles = d.bundles.items;
  threads = d.threads.items;
  plan = d.plan;
  faults = d.faults.items;
  script = d.script.items;
  steps = d.steps.items;
}
