mod Closeness
mod ClosedRuns
mod FirstPuts
mod GoingOn
mod Roomy
mod Taking
