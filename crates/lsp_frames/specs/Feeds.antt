-- What a feed gives.
use Rattle.std.specs.Prelude.{List, ◌++◌}
use Rattle.std.specs.Option.{option_to_list}
use Rattle.lsp_frames.specs.declared.fed.Fed.{Fed}
use Rattle.lsp_frames.specs.declared.frame.Frame.{Frame}

-- the frames that a piece completes
abbrev pub fed_frames : Fed → List Frame
fed_frames fed = option_to_list fed.first ++ fed.others
