mod Extended
mod PlanCores
mod SourceCores
