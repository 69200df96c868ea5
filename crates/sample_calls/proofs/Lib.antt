mod Found
mod PlanFronts
